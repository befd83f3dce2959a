-- The lines of a text that are read so far.
use Rattle.std.proofs.Common.{◌≡◌, ℕ, zero, suc, ◌+◌, ◌<◌, ◌≤◌, ◌^◌, Bool, true, false, ◌==◌, leb-true, eqb-true, List, [], ◌∷◌, ◌++◌, length, take, drop, get_or, refl, sym, ap, ap₂, subst, ◌∙◌, length-append, append_assoc, append-nil, arith, Option, Some, None, ne_eqb, inl, inr}
use Rattle.std.specs.Prelude.{slice_index, nat_lt, nat_le, ◌⊎◌, ◌||◌, MatchOption, IfSome}
use Rattle.std.proofs.lemmas.List.{length-drop, take-append-le, drop-append-le, drop_at, take_all, get_or-drop, append_cancel_right}
use Rattle.std.proofs.lemmas.Bool.{and_parts, or_parts}
use Rattle.hex.specs.Hex.{IsBytes}
use Rattle.s390x_format.specs.declared.decoder.Located.{Located}
use Rattle.s390x_format.specs.Rows.{fetch_length_of}
use Rattle.s390x_disassembler.specs.declared.line.Line.{Line}
use Rattle.s390x_disassembler.specs.Lines.{bytes_at, unit_length, IsFound, IsLine, Covers}
use Rattle.s390x_disassembler.specs.Disassembly.{address_of, full_line}
use Rattle.s390x_disassembler.specs.Bare.{is_unit}
use Rattle.s390x_disassembler.specs.Assembly.{bare_line, BeginsWith, Spells, IsSource, IsNoSource, IsOnlySource, IsWrongSource, IsFirstLine, is_whole, ends_well}
use Rattle.s390x_disassembler.proofs.Ahead.{Ahead, IsNext, begin, at_line, read_line, no_line, no_begin, all_read}
use Rattle.s390x_disassembler.proofs.Distinct.{part_bytes}
use Rattle.s390x_disassembler.proofs.Covering.{one_more}
use Rattle.s390x_disassembler.proofs.LineFeed.{IsLineText, line_text_is, one_split}
use Rattle.s390x_disassembler.proofs.FieldText.{IsClear}
use Rattle.s390x_disassembler.proofs.Written.{unit_some}

-- each line has as many bytes as the first of them tells
abbrev pub AllWhole : List ℕ → List Line → Type 0
AllWhole code [] = Unit {0}
AllWhole code (l ∷ ls) = (l.length ≡ fetch_length_of (slice_index code l.offset)) × AllWhole code ls

-- the lines that are read are a source of the code, and what has them has the code
pub record IsSoFar (base : ℕ) (text code rest : List ℕ) (lines : ℕ) : Type 0 where
  pub bytes : IsBytes code
  pub before : List ℕ
  pub text_is : text ≡ before ++ rest
  pub source : IsSource base code before
  pub count : lines ≡ length source.lines
  pub few : lines + length rest ≤ length text
  pub whole : 0 < length rest → AllWhole code source.lines
  pub ahead : (c tail : List ℕ) → IsBytes c → IsSource base c (before ++ tail) → Ahead base c code tail

pub nothing_read : (base : ℕ) (text : List ℕ) → IsSoFar base text [] text 0
nothing_read base text = record {
  bytes = λ i. omega arith;
  before = [];
  text_is = refl;
  source = record { lines = []; covers = refl; spells = refl };
  count = refl;
  few = omega arith;
  whole = λ some. tt;
  ahead = λ c tail hc s. begin base c tail s;
}

-- ---- more bytes behind a code
more_bytes : (code bytes : List ℕ) → IsBytes code → IsBytes bytes → IsBytes (code ++ bytes)
more_bytes [] bytes h g i = g i
more_bytes (x ∷ code) bytes h g zero = h 0
more_bytes (x ∷ code) bytes h g (suc i) = more_bytes code bytes (λ j. h (suc j)) g i

longer_bytes : (code bytes : List ℕ) (l : Line) → l.offset + l.length ≤ length code → bytes_at (code ++ bytes) l ≡ bytes_at code l
longer_bytes code bytes l le =
    ap (take l.length) (drop-append-le l.offset code bytes (omega (arith, le))) ∙ take-append-le l.length (drop l.offset code) bytes (omega (arith, le, length-drop l.offset code))

first_at : (code : List ℕ) (o : ℕ) → slice_index (drop o code) 0 ≡ slice_index code o
first_at code o = let e : o + 0 ≡ o = omega arith in get_or-drop o code 0 0 ∙ ap (λ (i : ℕ). slice_index code i) e

first_longer : (code bytes : List ℕ) (o : ℕ) → o < length code → slice_index (code ++ bytes) o ≡ slice_index code o
first_longer [] bytes o lt = absurd (omega (arith, lt))
first_longer (x ∷ code) bytes zero lt = refl
first_longer (x ∷ code) bytes (suc o) lt = first_longer code bytes o (omega (arith, lt))

line_ends : (code : List ℕ) (l : Line) → IsLine code l → l.offset + l.length ≤ length code
line_ends code l h = omega (arith, h.inside, h.length_is, length-drop l.offset code)

longer_line : (code bytes : List ℕ) (l : Line) → IsLine code l → l.length ≡ fetch_length_of (slice_index code l.offset) → IsLine (code ++ bytes) l
longer_line code bytes l h w =
    let ends = line_ends code l h in
    let first : fetch_length_of (slice_index (drop l.offset (code ++ bytes)) 0) ≡ l.length = ap fetch_length_of (first_at (code ++ bytes) l.offset ∙ first_longer code bytes l.offset h.inside) ∙ sym w in
    record {
      inside = omega (arith, h.inside, length-append code bytes);
      length_is = omega (arith, first, ends, length-append code bytes, length-drop l.offset (code ++ bytes));
      found = subst (λ (t : List ℕ). IsFound t l.found) (sym (longer_bytes code bytes l ends)) h.found;
    }

longer_cover : (code bytes : List ℕ) (s e : ℕ) (ls : List Line) → AllWhole code ls → Covers code s e ls → Covers (code ++ bytes) s e ls
longer_cover code bytes s e [] w c = c
longer_cover code bytes s e (l ∷ ls) w c = (c.0, longer_line code bytes l c.1 w.0, longer_cover code bytes (s + l.length) e ls w.1 c.2)

longer_whole : (code bytes : List ℕ) (s e : ℕ) (ls : List Line) → AllWhole code ls → Covers code s e ls → AllWhole (code ++ bytes) ls
longer_whole code bytes s e [] w c = tt
longer_whole code bytes s e (l ∷ ls) w c = (w.0 ∙ ap fetch_length_of (sym (first_longer code bytes l.offset c.1.inside)), longer_whole code bytes (s + l.length) e ls w.1 c.2)

longer_begins : (base : ℕ) (code bytes : List ℕ) (l : Line) (text rest : List ℕ) → IsLine code l → BeginsWith base code l text rest → BeginsWith base (code ++ bytes) l text rest
longer_begins base code bytes l text rest h (inl e) = inl (e ∙ ap (λ (u : List ℕ). full_line (address_of base l.offset) u l.found ++ rest) (sym (longer_bytes code bytes l (line_ends code l h))))
longer_begins base code bytes l text rest h (inr e) = inr (e ∙ ap (λ (u : List ℕ). bare_line (address_of base l.offset) u l.found ++ rest) (sym (longer_bytes code bytes l (line_ends code l h))))

begins_more : (base : ℕ) (code : List ℕ) (l : Line) (text rest t : List ℕ) → BeginsWith base code l text rest → BeginsWith base code l (text ++ t) (rest ++ t)
begins_more base code l text rest t (inl e) = inl (ap (λ (u : List ℕ). u ++ t) e ∙ append_assoc (full_line (address_of base l.offset) (bytes_at code l) l.found) rest t)
begins_more base code l text rest t (inr e) = inr (ap (λ (u : List ℕ). u ++ t) e ∙ append_assoc (bare_line (address_of base l.offset) (bytes_at code l) l.found) rest t)

spells_more : (base : ℕ) (code bytes : List ℕ) (s e : ℕ) (ls : List Line) (l : Line) (text t : List ℕ) → Covers code s e ls → Spells base code ls text → BeginsWith base (code ++ bytes) l t [] → Spells base (code ++ bytes) (ls ++ (l ∷ [])) (text ++ t)
spells_more base code bytes s e [] l text t c sp b = ([], subst (λ (u : List ℕ). BeginsWith base (code ++ bytes) l (u ++ t) []) (sym sp) b, refl)
spells_more base code bytes s e (m ∷ ls) l text t c sp b =
    (sp.0 ++ t, begins_more base (code ++ bytes) m text sp.0 t (longer_begins base code bytes m text sp.0 c.1 sp.1), spells_more base code bytes (s + m.length) e ls l sp.0 t c.2 sp.2 b)

-- ---- one more line
behind_code : (code bytes : List ℕ) → drop (length code) (code ++ bytes) ≡ bytes
behind_code code bytes = drop_at code bytes (length code) refl

-- the line of some bytes behind a code
abbrev pub line_of : List ℕ → List ℕ → Option Located → Line
line_of code bytes found = record { offset = length code; length = length bytes; found = found }

new_bytes : (code bytes : List ℕ) (found : Option Located) → bytes_at (code ++ bytes) (line_of code bytes found) ≡ bytes
new_bytes code bytes found = ap (take (length bytes)) (behind_code code bytes) ∙ take_all (length bytes) bytes (omega arith)

unit_fits : (bytes : List ℕ) → is_unit bytes ≡ true → length bytes ≡ unit_length bytes
unfolding is_unit
unit_fits bytes h = omega (arith, leb-true _ _ (and_parts (nat_lt 0 (length bytes)) (nat_le (length bytes) (fetch_length_of (slice_index bytes 0))) h).1)

new_line : (code bytes : List ℕ) (found : Option Located) → is_unit bytes ≡ true → IsFound bytes found → IsLine (code ++ bytes) (line_of code bytes found)
new_line code bytes found unit is_found = record {
  inside = omega (arith, unit_some bytes unit, length-append code bytes);
  length_is = unit_fits bytes unit ∙ ap unit_length (sym (behind_code code bytes));
  found = subst (λ (t : List ℕ). IsFound t found) (sym (new_bytes code bytes found)) is_found;
}

whole_more : (code : List ℕ) (ls : List Line) (l : Line) → AllWhole code ls → l.length ≡ fetch_length_of (slice_index code l.offset) → AllWhole code (ls ++ (l ∷ []))
whole_more code [] l w h = (h, tt)
whole_more code (m ∷ ls) l w h = (w.0, whole_more code ls l w.1 h)

-- the text of the line that is read
record HasLine (base : ℕ) (code rest bytes more : List ℕ) (found : Option Located) : Type 0 where
  line : List ℕ
  rest_is : rest ≡ line ++ more
  begins : BeginsWith base (code ++ bytes) (line_of code bytes found) line []

has_line : (base : ℕ) (code rest bytes more : List ℕ) (found : Option Located) → (rest ≡ full_line (address_of base (length code)) bytes found ++ more) ⊎ (rest ≡ bare_line (address_of base (length code)) bytes found ++ more) → HasLine base code rest bytes more found
has_line base code rest bytes more found (inl e) = record {
  line = full_line (address_of base (length code)) bytes found;
  rest_is = e;
  begins = inl (ap (λ (u : List ℕ). full_line (address_of base (length code)) u found) (sym (new_bytes code bytes found)) ∙ sym (append-nil _));
}
has_line base code rest bytes more found (inr e) = record {
  line = bare_line (address_of base (length code)) bytes found;
  rest_is = e;
  begins = inr (ap (λ (u : List ℕ). bare_line (address_of base (length code)) u found) (sym (new_bytes code bytes found)) ∙ sym (append-nil _));
}

mod_small : (base n : ℕ) → address_of base n < 2 ^ 64
mod_small base n = omega arith

-- a first line at the head of another text
moved : (a : ℕ) (line tail rest more u behind : List ℕ) → rest ≡ line ++ more → tail ≡ behind → IsFirstLine a (line ++ tail) u behind → IsFirstLine a rest u more
moved a line tail rest more u behind is same f = record {
  unit = f.unit;
  found = f.found;
  is_found = f.is_found;
  text_is = elim f.text_is [
    | inl e ↦ inl (is ∙ ap (λ (t : List ℕ). t ++ more) (append_cancel_right line (full_line a u f.found) behind (ap (λ (t : List ℕ). line ++ t) (sym same) ∙ e)))
    | inr e ↦ inr (is ∙ ap (λ (t : List ℕ). t ++ more) (append_cancel_right line (bare_line a u f.found) behind (ap (λ (t : List ℕ). line ++ t) (sym same) ∙ e)))
  ];
}

-- the bytes that are read are those of the next line of each source that goes on so
next_of : (base : ℕ) (c code bytes rest line more tail : List ℕ) → IsBytes c → rest ≡ line ++ more → IsFirstLine (address_of base (length code)) rest bytes more
    → ((u r : List ℕ) → IsBytes u → IsFirstLine (address_of base (length code)) rest u r → (bytes ≡ u) × (more ≡ r)) → Ahead base c code (line ++ tail) → IsNext base c code bytes tail
next_of base c code bytes rest line more tail hc rest_is first reads a = next a.lines a.covers a.spells
  where
    text : IsLineText rest more
    text = line_text_is (address_of base (length code)) rest bytes more (mod_small base (length code)) first

    line_is : line ≡ text.line ++ (10 ∷ [])
    line_is = append_cancel_right line (text.line ++ (10 ∷ [])) more (sym rest_is ∙ text.text_is ∙ sym (append_assoc text.line (10 ∷ []) more))

    next : (ls : List Line) → Covers c (length code) (length c) ls → Spells base c ls (line ++ tail) → IsNext base c code bytes tail
    next [] x e = absurd (omega (arith, ap length e, length-append line tail, ap length line_is, length-append text.line (10 ∷ [])))
    next (m ∷ ms) x e =
        let behind : List ℕ = e.0 in
        let at = at_line base c code (line ++ tail) m ms behind x.0 x.1 x.2 e.1 e.2 in
        let other : IsLineText (line ++ tail) behind = line_text_is (address_of base (length code)) (line ++ tail) (bytes_at c m) behind (mod_small base (length code)) at.first in
        let same = one_split text.line other.line tail behind text.clear other.clear (sym (append_assoc text.line (10 ∷ []) tail) ∙ ap (λ (u : List ℕ). u ++ tail) (sym line_is) ∙ other.text_is) in
        let here : IsFirstLine (address_of base (length code)) rest (bytes_at c m) more = moved (address_of base (length code)) line tail rest more (bytes_at c m) behind rest_is same.1 at.first in
        let t = reads (bytes_at c m) more (part_bytes c m hc) here in
        read_line base c code bytes tail (line ++ tail) behind m ms a.code_is at t.0 same.1

-- the source with the line that is read
record HasMore (base : ℕ) (text code before bytes more : List ℕ) (ls : List Line) (l : Line) (lines : ℕ) : Type 0 where
  now : List ℕ
  text_is : text ≡ now ++ more
  source : IsSource base (code ++ bytes) now
  lines_are : source.lines ≡ ls ++ (l ∷ [])
  few : lines + 1 + length more ≤ length text
  next : (c tail : List ℕ) → IsBytes c → IsSource base c (now ++ tail) → IsNext base c code bytes tail

line_some : (base : ℕ) (code : List ℕ) (l : Line) (line : List ℕ) → BeginsWith base code l line [] → 0 < length line
line_some base code l [] b = absurd (no_begin base code l [] b)
line_some base code l (x ∷ line) b = omega arith

has_more : (base : ℕ) (text code bytes rest more : List ℕ) (lines : ℕ) → 0 < length rest → (so : IsSoFar base text code rest lines) → (first : IsFirstLine (address_of base (length code)) rest bytes more)
    → ((u r : List ℕ) → IsBytes u → IsFirstLine (address_of base (length code)) rest u r → (bytes ≡ u) × (more ≡ r)) → HasMore base text code so.before bytes more so.source.lines (line_of code bytes first.found) lines
has_more base text code bytes rest more lines some so first reads =
    let l : Line = line_of code bytes first.found in
    let whole : AllWhole code so.source.lines = so.whole some in
    let has = has_line base code rest bytes more first.found first.text_is in
    record {
      now = so.before ++ has.line;
      text_is = so.text_is ∙ ap (λ (t : List ℕ). so.before ++ t) has.rest_is ∙ sym (append_assoc so.before has.line more);
      source = record {
        lines = so.source.lines ++ (l ∷ []);
        covers = subst (λ (n : ℕ). Covers (code ++ bytes) 0 n (so.source.lines ++ (l ∷ []))) (sym (length-append code bytes))
            (one_more (code ++ bytes) 0 (length code) so.source.lines l (longer_cover code bytes 0 (length code) so.source.lines whole so.source.covers) refl (new_line code bytes first.found first.unit first.is_found));
        spells = spells_more base code bytes 0 (length code) so.source.lines l so.before has.line so.source.covers so.source.spells has.begins;
      };
      lines_are = refl;
      few = omega (arith, so.few, ap length has.rest_is, length-append has.line more, line_some base (code ++ bytes) l has.line has.begins);
      next = λ c tail hc s. next_of base c code bytes rest has.line more tail hc has.rest_is first reads (so.ahead c (has.line ++ tail) hc (subst (λ (t : List ℕ). IsSource base c t) (append_assoc so.before has.line tail) s));
    }

-- one more line is read
pub line_read : (base : ℕ) (text code bytes rest more : List ℕ) (lines : ℕ) → 0 < length rest → (so : IsSoFar base text code rest lines) → IsBytes bytes → (is_whole bytes ≡ false → more ≡ []) → (first : IsFirstLine (address_of base (length code)) rest bytes more)
    → ((u r : List ℕ) → IsBytes u → IsFirstLine (address_of base (length code)) rest u r → (bytes ≡ u) × (more ≡ r)) → IsSoFar base text (code ++ bytes) more (lines + 1)
line_read base text code bytes rest more lines some so small part first reads =
    let l : Line = line_of code bytes first.found in
    let has = has_more base text code bytes rest more lines some so first reads in
    record {
      bytes = more_bytes code bytes so.bytes small;
      before = has.now;
      text_is = has.text_is;
      source = has.source;
      count = omega (arith, so.count, ap length has.lines_are, length-append so.source.lines (l ∷ []));
      few = has.few;
      whole = λ left. subst (λ (ls : List Line). AllWhole (code ++ bytes) ls) (sym has.lines_are)
          (whole_more (code ++ bytes) so.source.lines l (longer_whole code bytes 0 (length code) so.source.lines (so.whole some) so.source.covers) (whole_line left));
      ahead = λ c tail hc s. (has.next c tail hc s).ahead;
    }
  where
    decided : 0 < length more → (b : Bool) → is_whole bytes ≡ b → length bytes ≡ fetch_length_of (slice_index (code ++ bytes) (length code))
    decided left true e = eqb-true (length bytes) (fetch_length_of (slice_index bytes 0)) e ∙ ap fetch_length_of (ap (λ (t : List ℕ). slice_index t 0) (sym (behind_code code bytes)) ∙ first_at (code ++ bytes) (length code))
    decided left false e = absurd (omega (arith, left, ap length (part e)))

    whole_line : 0 < length more → length bytes ≡ fetch_length_of (slice_index (code ++ bytes) (length code))
    whole_line left = decided left (is_whole bytes) refl

-- ---- where a line is wrong
-- a text begins with what another has before its first line feed
record HasFeed (line more xs : List ℕ) : Type 0 where
  rest : List ℕ
  text_is : line ++ (10 ∷ more) ≡ xs ++ (10 ∷ rest)

has_feed : (line more behind xs r : List ℕ) → IsClear xs → line ++ (10 ∷ behind) ≡ xs ++ (10 ∷ r) → HasFeed line more xs
has_feed [] more behind [] r h e = record { rest = more; text_is = refl }
has_feed [] more behind (x ∷ xs) r h e = absurd (h.0 (sym (ap (λ (t : List ℕ). get_or t 0 0) e)))
has_feed (y ∷ line) more behind [] r h e = record { rest = line ++ (10 ∷ more); text_is = ap (λ (c : ℕ). c ∷ (line ++ (10 ∷ more))) (ap (λ (t : List ℕ). get_or t 0 0) e) }
has_feed (y ∷ line) more behind (x ∷ xs) r h e =
    let f = has_feed line more behind xs r h.1 (ap (drop 1) e) in
    record { rest = f.rest; text_is = ap₂ (λ (c : ℕ) (t : List ℕ). c ∷ t) (ap (λ (t : List ℕ). get_or t 0 0) e) f.text_is }

-- a first line at the head of another text
same_first : (a : ℕ) (text other u r w xs : List ℕ) → text ≡ xs ++ (10 ∷ r) → other ≡ xs ++ (10 ∷ w) → IsFirstLine a text u r → IsFirstLine a other u w
same_first a text other u r w xs is e f = record {
  unit = f.unit;
  found = f.found;
  is_found = f.is_found;
  text_is = elim f.text_is [
    | inl h ↦ inl (e ∙ sym (append_assoc xs (10 ∷ []) w) ∙ ap (λ (t : List ℕ). t ++ w) (append_cancel_right (xs ++ (10 ∷ [])) (full_line a u f.found) r (append_assoc xs (10 ∷ []) r ∙ sym is ∙ h)))
    | inr h ↦ inr (e ∙ sym (append_assoc xs (10 ∷ []) w) ∙ ap (λ (t : List ℕ). t ++ w) (append_cancel_right (xs ++ (10 ∷ [])) (bare_line a u f.found) r (append_assoc xs (10 ∷ []) r ∙ sym is ∙ h)))
  ];
}

-- a source of which a line is read has a first line where its text goes on
no_other : (base : ℕ) (c code rest line more behind : List ℕ) → IsBytes c → rest ≡ line ++ (10 ∷ more) → ((u r : List ℕ) → IsBytes u → IsFirstLine (address_of base (length code)) rest u r → ⊥) → Ahead base c code (line ++ (10 ∷ behind)) → ⊥
no_other base c code rest line more behind hc is none a = no_line base c code (line ++ (10 ∷ behind)) hc (omega (arith, length-append line (10 ∷ behind))) a
    (λ u r hu f.
    let t = line_text_is (address_of base (length code)) (line ++ (10 ∷ behind)) u r (mod_small base (length code)) f in
    let g = has_feed line more behind t.line r t.clear t.text_is in
    none u g.rest hu (same_first (address_of base (length code)) (line ++ (10 ∷ behind)) rest u r g.rest t.line t.text_is (is ∙ g.text_is) f))

-- the line behind those that are read is wrong
pub wrong_read : (base : ℕ) (text code rest : List ℕ) (lines : ℕ) → IsSoFar base text code rest lines → ((u r : List ℕ) → IsBytes u → IsFirstLine (address_of base (length code)) rest u r → ⊥) → IsWrongSource base text (lines + 1)
wrong_read base text code rest lines so none = record {
  code = code;
  bytes = so.bytes;
  before = so.before;
  rest = rest;
  text_is = so.text_is;
  begun = so.source;
  number_is = ap (λ (n : ℕ). n + 1) so.count;
  wrong = λ c line more behind hc is s. no_other base c code rest line more behind hc is none (so.ahead c (line ++ (10 ∷ behind)) hc s);
}

-- and so is the one behind a line whose bytes end the code
pub wrong_behind : (base : ℕ) (text code bytes rest more : List ℕ) (lines : ℕ) → 0 < length rest → IsSoFar base text code rest lines → is_whole bytes ≡ false → (first : IsFirstLine (address_of base (length code)) rest bytes more)
    → ((u r : List ℕ) → IsBytes u → IsFirstLine (address_of base (length code)) rest u r → (bytes ≡ u) × (more ≡ r)) → IsBytes bytes → IsWrongSource base text (lines + 1 + 1)
wrong_behind base text code bytes rest more lines some so part first reads small =
    let has = has_more base text code bytes rest more lines some so first reads in
    record {
      code = code ++ bytes;
      bytes = more_bytes code bytes so.bytes small;
      before = has.now;
      rest = more;
      text_is = has.text_is;
      begun = has.source;
      number_is = omega (arith, so.count, ap length has.lines_are, length-append so.source.lines (line_of code bytes first.found ∷ []));
      wrong = λ c line left behind hc is s. omega (arith, ap length ((has.next c (line ++ (10 ∷ behind)) hc s).ends part), length-append line (10 ∷ behind));
    }

pub none_behind : (base : ℕ) (text code bytes rest more : List ℕ) (lines : ℕ) → 0 < length rest → 0 < length more → IsSoFar base text code rest lines → is_whole bytes ≡ false → (first : IsFirstLine (address_of base (length code)) rest bytes more)
    → ((u r : List ℕ) → IsBytes u → IsFirstLine (address_of base (length code)) rest u r → (bytes ≡ u) × (more ≡ r)) → IsNoSource base text
none_behind base text code bytes rest more lines some left so part first reads =
    let has = has_more base text code bytes rest more lines some so first reads in
    λ c hc s. omega (arith, left, ap length ((has.next c more hc (subst (λ (t : List ℕ). IsSource base c t) has.text_is s)).ends part))

-- ---- answers
pub only_read : (base : ℕ) (text code rest : List ℕ) (lines : ℕ) → length rest ≡ 0 → IsSoFar base text code rest lines → IsOnlySource base code text
only_read base text code [] lines none so = λ c hc s. all_read base c code (so.ahead c [] hc (subst (λ (t : List ℕ). IsSource base c t) so.text_is s))
only_read base text code (x ∷ rest) lines none so = absurd (omega (arith, none))

-- no line is read
pub none_read : (base : ℕ) (text code rest : List ℕ) (lines : ℕ) → 0 < length rest → IsSoFar base text code rest lines → ((u r : List ℕ) → IsBytes u → IsFirstLine (address_of base (length code)) rest u r → ⊥) → IsNoSource base text
none_read base text code rest lines some so none = λ c hc s. no_line base c code rest hc some (so.ahead c rest hc (subst (λ (t : List ℕ). IsSource base c t) so.text_is s)) none

-- ---- what a line's answer says
pub none_of : {T : Type 0} (r : Option T) (P : T → Type 0) → r ≡ None → MatchOption r ⊥ P → ⊥
none_of None P e h = h
none_of (Some t) P e h = cc

pub some_of : {T : Type 0} (r : Option T) (t : T) (P : T → Type 0) → r ≡ Some t → MatchOption r ⊥ P → P t
some_of r t P e h = subst (λ x. MatchOption x ⊥ P) e h

pub sound_of : {T : Type 0} (r : Option T) (t : T) (P : T → Type 0) → r ≡ Some t → IfSome r P → P t
sound_of r t P e h = subst (λ x. IfSome x P) e h

pub part_of : (bytes more : List ℕ) (r : Bool) → r ≡ ends_well bytes more → r ≡ true → is_whole bytes ≡ false → more ≡ []
part_of bytes [] r is ends part = refl
part_of bytes (x ∷ more) r is ends part = let h : ends_well bytes (x ∷ more) ≡ false = ap₂ (λ (a b : Bool). a || b) part (ne_eqb (length (x ∷ more)) 0 (λ e. omega (arith, e))) in cc

pub open_part : (bytes more : List ℕ) (r : Bool) → r ≡ ends_well bytes more → r ≡ false → (is_whole bytes ≡ false) × (0 < length more)
open_part bytes more r is left = let p = or_parts (is_whole bytes) (length more == 0) (sym is ∙ left) in (p.0, some_left more p.1)
  where
    some_left : (xs : List ℕ) → (length xs == 0) ≡ false → 0 < length xs
    some_left [] e = cc
    some_left (x ∷ xs) e = omega arith
