-- Bytes of no instruction, piece by piece.
use Rattle.std.proofs.Common.{◌≡◌, ℕ, ◌<◌, ◌≤◌, List, [], ◌∷◌, ◌++◌, length, take, drop, refl, arith}
use Rattle.hex.specs.Hex.{encode_lower}
use Rattle.s390x_disassembler.specs.Text.{pairs_text, bytes_text}

-- fewer than two bytes have no pair
pub short_pairs : (separator : ℕ) (bs : List ℕ) → length bs < 2 → pairs_text separator bs ≡ []
short_pairs separator [] h = refl
short_pairs separator (b ∷ []) h = refl
short_pairs separator (b ∷ c ∷ bs) h = absurd (omega arith)

-- the first pair
pub one_pair : (separator : ℕ) (bs : List ℕ) → 2 ≤ length bs → pairs_text separator bs ≡ separator ∷ (48 ∷ (120 ∷ (encode_lower (take 2 bs) ++ pairs_text 44 (drop 2 bs))))
one_pair separator [] h = absurd (omega arith)
one_pair separator (b ∷ []) h = absurd (omega arith)
one_pair separator (b ∷ c ∷ bs) h = refl

-- the first byte
pub one_byte : (separator : ℕ) (bs : List ℕ) → 1 ≤ length bs → bytes_text separator bs ≡ separator ∷ (48 ∷ (120 ∷ (encode_lower (take 1 bs) ++ bytes_text 44 (drop 1 bs))))
one_byte separator [] h = absurd (omega arith)
one_byte separator (b ∷ bs) h = refl
