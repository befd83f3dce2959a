-- A line ends with its only line feed.
use Rattle.std.proofs.Common.{◌≡◌, ℕ, zero, suc, ◌/◌, ◌%◌, ◌^◌, ◌<◌, Bool, true, false, ◌==◌, if◌then◌else◌, List, [], ◌∷◌, ◌++◌, codes, length, drop, get_or, append_assoc, refl, sym, ap, ap₂, ◌∙◌, arith, inl, inr, Option, Some, None}
use Rattle.std.specs.Prelude.{slice_index}
use Rattle.std.specs.Fmt.{digits}
use Rattle.std.proofs.lemmas.Fmt.{digits_is_IsNumeral}
use Rattle.hex.specs.Hex.{encode_lower, encode_with, lower_digits}
use Rattle.s390x_format.specs.declared.decoder.Located.{Located}
use Rattle.s390x_disassembler.specs.Text.{found_text, data_text, pairs_text, bytes_text}
use Rattle.s390x_disassembler.specs.Lines.{IsFound}
use Rattle.s390x_disassembler.specs.Bare.{is_unit}
use Rattle.s390x_disassembler.specs.Assembly.{IsFirstLine}
use Rattle.s390x_disassembler.proofs.Distinct.{line_and_rest}
use Rattle.s390x_disassembler.proofs.FieldText.{IsClear, clear_both, clear_digits, located_clear}

digit_clear : (k : ℕ) → slice_index lower_digits k ≡ 10 → ⊥
digit_clear (suc (suc (suc (suc (suc (suc (suc (suc (suc (suc (suc (suc (suc (suc (suc zero))))))))))))))) e = omega (arith, e)
digit_clear k e = omega (arith, e)

hex_clear : (bs : List ℕ) → IsClear (encode_lower bs)
unfolding encode_with
hex_clear [] = tt
hex_clear (b ∷ bs) = (digit_clear (b / 16), (digit_clear (b % 16), hex_clear bs))

pairs_clear : (separator : ℕ) (bs : List ℕ) → (separator ≡ 10 → ⊥) → IsClear (pairs_text separator bs)
pairs_clear separator [] h = tt
pairs_clear separator (b ∷ []) h = tt
pairs_clear separator (b ∷ c ∷ bs) h = (h, ((λ e. omega (arith, e)), ((λ e. omega (arith, e)), clear_both (encode_lower (b ∷ c ∷ [])) _ (hex_clear (b ∷ c ∷ [])) (pairs_clear 44 bs (λ e. omega (arith, e))))))

bytes_clear : (separator : ℕ) (bs : List ℕ) → (separator ≡ 10 → ⊥) → IsClear (bytes_text separator bs)
bytes_clear separator [] h = tt
bytes_clear separator (b ∷ bs) h = (h, ((λ e. omega (arith, e)), ((λ e. omega (arith, e)), clear_both (encode_lower (b ∷ [])) _ (hex_clear (b ∷ [])) (bytes_clear 44 bs (λ e. omega (arith, e))))))

short_clear : IsClear (codes ".short")
short_clear = ((λ e. omega (arith, e)), ((λ e. omega (arith, e)), ((λ e. omega (arith, e)), ((λ e. omega (arith, e)), ((λ e. omega (arith, e)), ((λ e. omega (arith, e)), tt))))))

byte_clear : IsClear (codes ".byte")
byte_clear = ((λ e. omega (arith, e)), ((λ e. omega (arith, e)), ((λ e. omega (arith, e)), ((λ e. omega (arith, e)), ((λ e. omega (arith, e)), tt)))))

data_clear : (bs : List ℕ) → IsClear (data_text bs)
unfolding data_text
data_clear bs = chosen (length bs % 2 == 0)
  where
    chosen : (b : Bool) → IsClear (if b then codes ".short" ++ pairs_text 32 bs else codes ".byte" ++ bytes_text 32 bs)
    chosen true = clear_both (codes ".short") _ short_clear (pairs_clear 32 bs (λ e. omega (arith, e)))
    chosen false = clear_both (codes ".byte") _ byte_clear (bytes_clear 32 bs (λ e. omega (arith, e)))

found_clear : (a : ℕ) (u : List ℕ) (x : Option Located) → a < 2 ^ 64 → is_unit u ≡ true → IsFound u x → IsClear (found_text a u x)
found_clear a u None small unit h = data_clear u
found_clear a u (Some l) small unit h = located_clear a u l small unit h

-- a text begins with a line, which has no line feed but that at its end
pub record IsLineText (text rest : List ℕ) : Type 0 where
  pub line : List ℕ
  pub text_is : text ≡ line ++ (10 ∷ rest)
  pub clear : IsClear line

columns_clear : (a : ℕ) (u : List ℕ) (x : Option Located) → a < 2 ^ 64 → is_unit u ≡ true → IsFound u x → IsClear (digits 16 false a ++ (58 ∷ (32 ∷ (encode_lower u ++ (32 ∷ found_text a u x)))))
columns_clear a u x small unit h =
    clear_both (digits 16 false a) _ (clear_digits 16 (digits 16 false a) (omega arith) (digits_is_IsNumeral 16 false (omega arith) (omega arith) a (omega (arith, small))).0.1)
    ((λ e. omega (arith, e)), ((λ e. omega (arith, e)), clear_both (encode_lower u) _ (hex_clear u) ((λ e. omega (arith, e)), found_clear a u x small unit h)))

pub line_text_is : (a : ℕ) (text u rest : List ℕ) → a < 2 ^ 64 → IsFirstLine a text u rest → IsLineText text rest
line_text_is a text u rest small f = elim f.text_is [
  | inl e ↦ record {
    line = digits 16 false a ++ (58 ∷ (32 ∷ (encode_lower u ++ (32 ∷ found_text a u f.found))));
    text_is = e ∙ line_and_rest a u f.found rest ∙ sym (append_assoc (digits 16 false a) _ (10 ∷ rest) ∙ ap (λ (t : List ℕ). digits 16 false a ++ (58 ∷ (32 ∷ t))) (append_assoc (encode_lower u) (32 ∷ found_text a u f.found) (10 ∷ rest)));
    clear = columns_clear a u f.found small f.unit f.is_found;
  }
  | inr e ↦ record {
    line = found_text a u f.found;
    text_is = e ∙ append_assoc (found_text a u f.found) (10 ∷ []) rest;
    clear = found_clear a u f.found small f.unit f.is_found;
  }
]

-- what stands before the first line feed, and after it
pub one_split : (xs ys p q : List ℕ) → IsClear xs → IsClear ys → xs ++ (10 ∷ p) ≡ ys ++ (10 ∷ q) → (xs ≡ ys) × (p ≡ q)
one_split [] [] p q h g e = (refl, ap (drop 1) e)
one_split [] (y ∷ ys) p q h g e = absurd (g.0 (sym (ap (λ (s : List ℕ). get_or s 0 0) e)))
one_split (x ∷ xs) [] p q h g e = absurd (h.0 (ap (λ (s : List ℕ). get_or s 0 0) e))
one_split (x ∷ xs) (y ∷ ys) p q h g e =
    let t = one_split xs ys p q h.1 g.1 (ap (drop 1) e) in
    (ap₂ (λ (z : ℕ) (zs : List ℕ). z ∷ zs) (ap (λ (s : List ℕ). get_or s 0 0) e) t.0, t.1)
