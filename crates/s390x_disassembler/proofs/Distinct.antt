-- Two codes with one disassembly are the same.
use Rattle.std.proofs.Common.{◌≡◌, ℕ, zero, suc, ◌+◌, ◌/◌, ◌%◌, false, List, [], ◌∷◌, ◌++◌, length, drop, get_or, refl, sym, ap, ap₂, subst, ◌∙◌, append_assoc, arith, Option, inl, inr}
use Rattle.std.specs.Prelude.{slice_index, Result, Ok}
use Rattle.std.specs.Fmt.{digits}
use Rattle.std.proofs.lemmas.List.{append_cancel_left, take-append-drop, drop-drop, drop_all, length-take, get_or-take, get_or-drop, get_or_past}
use Rattle.std.proofs.lemmas.Bool.{cases_lt}
use Rattle.hex.specs.Hex.{encode_lower, encode_with, lower_digits, decode_of, IsBytes}
use Rattle.hex.specs.declared.error.FromHexError.{FromHexError}
use Rattle.hex.proofs.HexLemmas.{decode_of-encode_lower}
use Rattle.s390x_format.specs.declared.decoder.Located.{Located}
use Rattle.s390x_disassembler.specs.declared.line.Line.{Line}
use Rattle.s390x_disassembler.specs.Words.{NoBlank}
use Rattle.s390x_disassembler.specs.Text.{found_text}
use Rattle.s390x_disassembler.specs.Lines.{bytes_at, IsFound, IsLine, Covers}
use Rattle.s390x_disassembler.specs.Disassembly.{address_of, full_line, lines_text, IsDisassembly}
use Rattle.s390x_disassembler.proofs.OneInstruction.{one_text}

-- what stands before the first blank, and after it
pub record Halves (xs ys p q : List ℕ) : Type 0 where
  pub before : xs ≡ ys
  pub after : p ≡ q

pub first_blank : (xs ys p q : List ℕ) → NoBlank xs → NoBlank ys → xs ++ (32 ∷ p) ≡ ys ++ (32 ∷ q) → Halves xs ys p q
first_blank [] [] p q h g e = record { before = refl; after = ap (drop 1) e }
first_blank [] (y ∷ ys) p q h g e = absurd (g.0 (sym (ap (λ (s : List ℕ). get_or s 0 0) e)))
first_blank (x ∷ xs) [] p q h g e = absurd (h.0 (ap (λ (s : List ℕ). get_or s 0 0) e))
first_blank (x ∷ xs) (y ∷ ys) p q h g e =
    let t = first_blank xs ys p q h.1 g.1 (ap (drop 1) e) in
    record { before = ap₂ (λ (z : ℕ) (zs : List ℕ). z ∷ zs) (ap (λ (s : List ℕ). get_or s 0 0) e) t.before; after = t.after }

digit_not_blank : (k : ℕ) → slice_index lower_digits k ≡ 32 → ⊥
digit_not_blank (suc (suc (suc (suc (suc (suc (suc (suc (suc (suc (suc (suc (suc (suc (suc zero))))))))))))))) e = omega (arith, e)
digit_not_blank k e = omega (arith, e)

pub NoBlank-hex : (bs : List ℕ) → NoBlank (encode_lower bs)
unfolding encode_with
NoBlank-hex [] = tt
NoBlank-hex (b ∷ bs) = (digit_not_blank (b / 16), (digit_not_blank (b % 16), NoBlank-hex bs))

ok_same : (x y : List ℕ) → ◌≡◌ {A = Result (List ℕ) FromHexError} (Ok x) (Ok y) → x ≡ y
ok_same x y e = cc

pub hex_same : (u v : List ℕ) → IsBytes u → IsBytes v → encode_lower u ≡ encode_lower v → u ≡ v
hex_same u v h g e = ok_same u v (sym (decode_of-encode_lower u h) ∙ ap decode_of e ∙ decode_of-encode_lower v g)

-- a line with what stands behind it
pub line_and_rest : (a : ℕ) (u : List ℕ) (x : Option Located) (rest : List ℕ) → full_line a u x ++ rest ≡ digits 16 false a ++ (58 ∷ (32 ∷ (encode_lower u ++ (32 ∷ (found_text a u x ++ (10 ∷ rest))))))
line_and_rest a u x rest =
    append_assoc (digits 16 false a) _ rest ∙ ap (λ (t : List ℕ). digits 16 false a ++ (58 ∷ (32 ∷ t)))
    (append_assoc (encode_lower u) _ rest ∙ ap (λ (t : List ℕ). encode_lower u ++ (32 ∷ t)) (append_assoc (found_text a u x) (10 ∷ []) rest))

-- the bytes of two lines at one address, and what stands behind them
record SameLine (u v rest more : List ℕ) : Type 0 where
  bytes : u ≡ v
  behind : rest ≡ more

same_line : (a : ℕ) (u v : List ℕ) (x y : Option Located) (rest more : List ℕ) → IsBytes u → IsBytes v → IsFound u x → IsFound v y → full_line a u x ++ rest ≡ full_line a v y ++ more → SameLine u v rest more
same_line a u v x y rest more h g fx fy e =
    let tails = append_cancel_left (digits 16 false a) _ _ (sym (line_and_rest a u x rest) ∙ e ∙ line_and_rest a v y more) in
    let halves = first_blank (encode_lower u) (encode_lower v) _ _ (NoBlank-hex u) (NoBlank-hex v) (ap (drop 2) tails) in
    let bytes : u ≡ v = hex_same u v h g halves.before in
    let text : found_text a u x ≡ found_text a v y = one_text a u x y fx (subst (λ (w : List ℕ). IsFound w y) (sym bytes) fy) ∙ ap (λ (w : List ℕ). found_text a w y) bytes in
    let ends : found_text a v y ++ (10 ∷ rest) ≡ found_text a v y ++ (10 ∷ more) = ap (λ (t : List ℕ). t ++ (10 ∷ rest)) (sym text) ∙ halves.after in
    record { bytes = bytes; behind = ap (drop 1) (append_cancel_left (found_text a v y) _ _ ends) }

pub part_bytes : (code : List ℕ) (l : Line) → IsBytes code → IsBytes (bytes_at code l)
part_bytes code l h i = elim (cases_lt i l.length) [
  | inl lt ↦ rw (get_or-take l.length (drop l.offset code) i 0 lt, get_or-drop l.offset code i 0) (h (l.offset + i))
  | inr ge ↦ rw (get_or_past (bytes_at code l) i 0 (omega (arith, ge, length-take l.length (drop l.offset code)))) (omega arith)
]

pub nothing : (xs rest : List ℕ) → [] ≡ xs ++ (58 ∷ rest) → ⊥
nothing [] rest e = omega (arith, ap length e)
nothing (x ∷ xs) rest e = omega (arith, ap length e)

pub line_length : (code : List ℕ) (l : Line) → IsLine code l → length (bytes_at code l) ≡ l.length
line_length code l h = omega (arith, length-take l.length (drop l.offset code), h.length_is)

pub same_codes : (base s : ℕ) (c d : List ℕ) (ls ms : List Line) → IsBytes c → IsBytes d → Covers c s (length c) ls → Covers d s (length d) ms → lines_text base c ls ≡ lines_text base d ms → drop s c ≡ drop s d
same_codes base s c d [] [] hc hd cc cd e = drop_all s c (omega (arith, cc)) ∙ sym (drop_all s d (omega (arith, cd)))
same_codes base s c d [] (m ∷ ms) hc hd cc cd e = absurd (nothing _ _ (e ∙ line_and_rest (address_of base m.offset) (bytes_at d m) m.found (lines_text base d ms)))
same_codes base s c d (l ∷ ls) [] hc hd cc cd e = absurd (nothing _ _ (sym e ∙ line_and_rest (address_of base l.offset) (bytes_at c l) l.found (lines_text base c ls)))
same_codes base s c d (l ∷ ls) (m ∷ ms) hc hd cc cd e =
    let place : m.offset ≡ l.offset = cd.0 ∙ sym cc.0 in
    let here : full_line (address_of base l.offset) (bytes_at c l) l.found ++ lines_text base c ls ≡ full_line (address_of base l.offset) (bytes_at d m) m.found ++ lines_text base d ms =
    e ∙ ap (λ (o : ℕ). full_line (address_of base o) (bytes_at d m) m.found ++ lines_text base d ms) place in
    let t = same_line (address_of base l.offset) (bytes_at c l) (bytes_at d m) l.found m.found _ _ (part_bytes c l hc) (part_bytes d m hd) cc.1.found cd.1.found here in
    let sizes : l.length ≡ m.length = sym (line_length c l cc.1) ∙ ap length t.bytes ∙ line_length d m cd.1 in
    let after : Covers d (s + l.length) (length d) ms = subst (λ (n : ℕ). Covers d (s + n) (length d) ms) (sym sizes) cd.2 in
    let tail = same_codes base (s + l.length) c d ls ms hc hd cc.2 after t.behind in
    let left : drop s c ≡ bytes_at c l ++ drop (s + l.length) c = whole c l s cc.0 in
    let right : drop s d ≡ bytes_at d m ++ drop (s + m.length) d = whole d m s cd.0 in
    left ∙ ap₂ (λ (u v : List ℕ). u ++ v) t.bytes (tail ∙ ap (λ (n : ℕ). drop (s + n) d) sizes) ∙ sym right
  where
    whole : (code : List ℕ) (l : Line) (s : ℕ) → l.offset ≡ s → drop s code ≡ bytes_at code l ++ drop (s + l.length) code
    whole code l s o = rw (← o) (sym (take-append-drop l.length (drop l.offset code)) ∙ ap (λ (t : List ℕ). bytes_at code l ++ t) (drop-drop l.length l.offset code))

pub one_code : (base : ℕ) (c d text : List ℕ) → IsBytes c → IsBytes d → IsDisassembly base c text → IsDisassembly base d text → c ≡ d
one_code base c d text hc hd x y = same_codes base 0 c d x.lines y.lines hc hd x.covers y.covers (sym x.text_is ∙ y.text_is)
