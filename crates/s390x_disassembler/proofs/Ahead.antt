-- Reading a source from its head on.
use Rattle.std.proofs.Common.{◌≡◌, ℕ, ◌+◌, ◌<◌, ◌≤◌, ◌&&◌, false, true, lt-ltb, le-leb, eq-eqb, List, [], ◌∷◌, ◌++◌, length, take, drop, refl, sym, ap, ap₂, subst, ◌∙◌, length-append, take-add, arith, inl, inr}
use Rattle.std.specs.Prelude.{slice_index, if◌then◌else◌, nat_lt, Bool}
use Rattle.std.proofs.lemmas.List.{length-drop, get_or-take, take_all}
use Rattle.std.proofs.lemmas.Bool.{cases_eq}
use Rattle.hex.specs.Hex.{IsBytes}
use Rattle.s390x_format.specs.Rows.{fetch_length_of}
use Rattle.s390x_disassembler.specs.declared.line.Line.{Line}
use Rattle.s390x_disassembler.specs.Text.{found_text}
use Rattle.s390x_disassembler.specs.Lines.{bytes_at, IsLine, Covers}
use Rattle.s390x_disassembler.specs.Disassembly.{address_of, full_line}
use Rattle.s390x_disassembler.specs.Bare.{is_unit}
use Rattle.s390x_disassembler.specs.Assembly.{bare_line, BeginsWith, Spells, IsSource, IsFirstLine, is_whole}
use Rattle.s390x_disassembler.proofs.Distinct.{line_and_rest, nothing, line_length, part_bytes}

true_not_false : (b : Bool) → b ≡ true → b ≡ false → ⊥
true_not_false b e h = cc

fetch_some : (b : ℕ) → 0 < fetch_length_of b
fetch_some b = some_of (nat_lt b 64) (nat_lt b 192)
  where
    some_of : (p q : Bool) → 0 < (if p then 2 else (if q then 4 else 6))
    some_of true q = omega arith
    some_of false true = omega arith
    some_of false false = omega arith

-- what is left of a source of c where code is read
pub record Ahead (base : ℕ) (c code rest : List ℕ) : Type 0 where
  pub lines : List Line
  pub covers : Covers c (length code) (length c) lines
  pub spells : Spells base c lines rest
  pub code_is : code ≡ take (length code) c

-- the bytes that were read are those of the next line, and what stands behind it is next
pub record IsNext (base : ℕ) (c code bytes more : List ℕ) : Type 0 where
  pub ahead : Ahead base c (code ++ bytes) more
  pub ends : is_whole bytes ≡ false → more ≡ []

pub begin : (base : ℕ) (c text : List ℕ) → IsSource base c text → Ahead base c [] text
begin base c text d = record { lines = d.lines; covers = d.covers; spells = d.spells; code_is = refl }

first_of : (c : List ℕ) (m : Line) → IsLine c m → slice_index (bytes_at c m) 0 ≡ slice_index (drop m.offset c) 0
first_of c m h = get_or-take m.length (drop m.offset c) 0 0 (omega (arith, h.inside, h.length_is, fetch_some (slice_index (drop m.offset c) 0), length-drop m.offset c))

-- a line whose bytes are fewer than the first tells ends the code
last_line : (c : List ℕ) (m : Line) → IsLine c m → is_whole (bytes_at c m) ≡ false → m.offset + m.length ≡ length c
last_line c m h part =
    let size = line_length c m h in
    elim (cases_eq m.length (fetch_length_of (slice_index (drop m.offset c) 0))) [
      | inl e ↦ absurd (true_not_false _ (eq-eqb (length (bytes_at c m)) (fetch_length_of (slice_index (bytes_at c m) 0)) (size ∙ e ∙ ap fetch_length_of (sym (first_of c m h)))) part)
      | inr ne ↦ omega (arith, ne, h.inside, h.length_is, length-drop m.offset c)
    ]

-- the bytes of a line stand together
pub line_unit : (c : List ℕ) (m : Line) → IsLine c m → is_unit (bytes_at c m) ≡ true
unfolding is_unit
line_unit c m h =
    let size = line_length c m h in
    let first = first_of c m h in
    let some : 0 < length (bytes_at c m) = omega (arith, size, h.inside, h.length_is, fetch_some (slice_index (drop m.offset c) 0), length-drop m.offset c) in
    let few : length (bytes_at c m) ≤ fetch_length_of (slice_index (bytes_at c m) 0) = subst (λ (b : ℕ). length (bytes_at c m) ≤ fetch_length_of b) (sym first) (omega (arith, size, h.length_is)) in
    ap₂ (λ (p q : Bool). p && q) (lt-ltb 0 (length (bytes_at c m)) some) (le-leb (length (bytes_at c m)) (fetch_length_of (slice_index (bytes_at c m) 0)) few)

-- the next line of a source
pub record IsAt (base : ℕ) (c code rest : List ℕ) (m : Line) (ms : List Line) (more : List ℕ) : Type 0 where
  pub first : IsFirstLine (address_of base (length code)) rest (bytes_at c m) more
  pub place : m.offset ≡ length code
  pub line : IsLine c m
  pub covers : Covers c (length code + m.length) (length c) ms
  pub spells : Spells base c ms more

pub at_line : (base : ℕ) (c code rest : List ℕ) (m : Line) (ms : List Line) (more : List ℕ) → m.offset ≡ length code → IsLine c m → Covers c (length code + m.length) (length c) ms → BeginsWith base c m rest more → Spells base c ms more → IsAt base c code rest m ms more
at_line base c code rest m ms more place line covers (inl e) spells = record {
  first = record { unit = line_unit c m line; found = m.found; is_found = line.found; text_is = inl (e ∙ ap (λ (o : ℕ). full_line (address_of base o) (bytes_at c m) m.found ++ more) place) };
  place = place;
  line = line;
  covers = covers;
  spells = spells;
}
at_line base c code rest m ms more place line covers (inr e) spells = record {
  first = record { unit = line_unit c m line; found = m.found; is_found = line.found; text_is = inr (e ∙ ap (λ (o : ℕ). bare_line (address_of base o) (bytes_at c m) m.found ++ more) place) };
  place = place;
  line = line;
  covers = covers;
  spells = spells;
}

-- where the bytes of the next line are read, what stands behind them is next
pub read_line : (base : ℕ) (c code bytes more rest behind : List ℕ) (m : Line) (ms : List Line) → code ≡ take (length code) c → IsAt base c code rest m ms behind → bytes ≡ bytes_at c m → more ≡ behind → IsNext base c code bytes more
read_line base c code bytes more rest behind m ms code_is at same is =
    let size : length bytes ≡ m.length = ap length same ∙ line_length c m at.line in
    let long : length (code ++ bytes) ≡ length code + m.length = length-append code bytes ∙ ap (λ (n : ℕ). length code + n) size in
    record {
      ahead = record {
        lines = ms;
        covers = subst (λ (n : ℕ). Covers c n (length c) ms) (sym long) at.covers;
        spells = subst (λ (t : List ℕ). Spells base c ms t) (sym is) at.spells;
        code_is = ap₂ (λ (p q : List ℕ). p ++ q) code_is (same ∙ ap (λ (o : ℕ). take m.length (drop o c)) at.place) ∙ sym (take-add (length code) m.length c) ∙ ap (λ (n : ℕ). take n c) (sym long);
      };
      ends = λ part. is ∙ none_left ms behind (last_line c m at.line (ap is_whole (sym same) ∙ part)) at.covers at.spells;
    }
  where
    none_left : (ls : List Line) (t : List ℕ) → m.offset + m.length ≡ length c → Covers c (length code + m.length) (length c) ls → Spells base c ls t → t ≡ []
    none_left [] t e x y = y
    none_left (l ∷ ls) t e x y = absurd (omega (arith, e, at.place, x.0, x.1.inside))

-- where no line is read, there is none
pub no_line : (base : ℕ) (c code rest : List ℕ) → IsBytes c → 0 < length rest → Ahead base c code rest → ((u r : List ℕ) → IsBytes u → IsFirstLine (address_of base (length code)) rest u r → ⊥) → ⊥
no_line base c code rest hc some a none = next a.lines a.covers a.spells
  where
    next : (ls : List Line) → Covers c (length code) (length c) ls → Spells base c ls rest → ⊥
    next [] x e = omega (arith, some, ap length e)
    next (m ∷ ms) x e = none (bytes_at c m) e.0 (part_bytes c m hc) (at_line base c code rest m ms e.0 x.0 x.1 x.2 e.1 e.2).first

-- no line is empty
pub no_begin : (base : ℕ) (c : List ℕ) (l : Line) (behind : List ℕ) → BeginsWith base c l [] behind → ⊥
no_begin base c l behind (inl e) = nothing _ _ (e ∙ line_and_rest (address_of base l.offset) (bytes_at c l) l.found behind)
no_begin base c l behind (inr e) = omega (arith, ap length e, length-append (found_text (address_of base l.offset) (bytes_at c l) l.found ++ (10 ∷ [])) behind, length-append (found_text (address_of base l.offset) (bytes_at c l) l.found) (10 ∷ []))

-- at the end the code is read
pub all_read : (base : ℕ) (c code : List ℕ) → Ahead base c code [] → code ≡ c
all_read base c code a = read a.lines a.covers a.spells
  where
    read : (ls : List Line) → Covers c (length code) (length c) ls → Spells base c ls [] → code ≡ c
    read [] x e = a.code_is ∙ take_all (length code) c (omega (arith, x))
    read (l ∷ ls) x e = absurd (no_begin base c l e.0 e.1)
