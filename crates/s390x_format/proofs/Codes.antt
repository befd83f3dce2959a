-- The bytes of a number, one by one.
use Rattle.std.proofs.Common.{◌≡◌, ℕ, zero, suc, ◌-◌, ◌*◌, ◌/◌, ◌%◌, ◌^◌, ◌<◌, ◌≤◌, List, length, get_or, take, sym, ap, ◌∙◌, arith, length-take, get_or-take, subst, true, ◌||◌, ◌==◌, eqb-true, inl, inr}
use Rattle.std.proofs.lemmas.Bool.{or_cases}
use Rattle.s390x_base.specs.Code.{is_code_length}
use Rattle.s390x_format.specs.declared.kind.FormatKind.{FormatKind}
use Rattle.s390x_format.specs.Layout.{number, zero_bits}
use Rattle.s390x_format.specs.Formats.{layout_of, length_of}
use Rattle.s390x_format.specs.Reading.{be_bytes, be_number, encode}
use Rattle.s390x_format.proofs.Finding.{whole_number}
use Rattle.s390x_format.proofs.Digits.{zero_of}
use Rattle.s390x_format.proofs.Bytes.{be_number-be_bytes}
use Rattle.s390x_format.proofs.OneReading.{same_list}

be_byte : (k n i : ℕ) → i < k → get_or (be_bytes k n) i 0 ≡ n / 2 ^ (8 * (k - 1 - i)) % 256
unfolding be_bytes
be_byte zero n i lt = absurd (omega arith)
be_byte (suc k) n zero lt = let e : k ≡ suc k - 1 - 0 = omega arith in ap (λ (z : ℕ). n / 2 ^ (8 * z) % 256) e
be_byte (suc k) n (suc i) lt = let e : k - 1 - i ≡ suc k - 1 - suc i = omega arith in be_byte k n i (omega arith) ∙ ap (λ (z : ℕ). n / 2 ^ (8 * z) % 256) e

pub code_is : (bytes : List ℕ) (k n : ℕ) → length bytes ≡ 6 → k ≤ 6 → ((i : ℕ) → i < k → get_or bytes i 0 ≡ n / 2 ^ (8 * (k - 1 - i)) % 256) → take k bytes ≡ be_bytes k n
code_is bytes k n six le h =
    let long : length (take k bytes) ≡ k = omega (arith, length-take k bytes) in
    same_list (take k bytes) (be_bytes k n) (long ∙ sym (be_number-be_bytes k n).0)
    (λ i lt. let l : i < k = omega arith in get_or-take k bytes i 0 l ∙ h i l ∙ sym (be_byte k n i l))

-- a code that is that of some values has their format's length and their number
pub code_known : (xs : List ℕ) (f : FormatKind) (slots : List ℕ) → xs ≡ encode f slots →
    (length xs ≡ length_of f) × (be_number xs ≡ number (layout_of f) slots)
code_known xs f slots e = (ap length e ∙ (be_number-be_bytes (length_of f) (number (layout_of f) slots)).0, ap be_number e ∙ whole_number f slots)

pub code_length : (n : ℕ) → is_code_length n ≡ true → n ≤ 6
code_length n h =
    elim (or_cases ((n == 2) || (n == 4)) (n == 6) h) [
      | inl a ↦ elim (or_cases (n == 2) (n == 4) a) [
        | inl b ↦ omega (arith, eqb-true n 2 b)
        | inr b ↦ omega (arith, eqb-true n 4 b)
      ]
      | inr a ↦ omega (arith, eqb-true n 6 a)
    ]

-- the bits of no value are zero
pub zero_code : (f : FormatKind) (slots xs : List ℕ) → length slots ≡ 10 → xs ≡ encode f slots → zero_bits (layout_of f) (be_number xs) ≡ true
zero_code f slots xs ten e =
    subst (λ (z : ℕ). zero_bits (layout_of f) z ≡ true) (sym (code_known xs f slots e).1) (zero_of (layout_of f) slots ten)
