-- Signed numbers as the bits that stand for them, and distances, which stand as their half.
use Rattle.std.proofs.Common.{◌≡◌, ℕ, suc, ◌+◌, ◌*◌, ◌/◌, ◌^◌, ◌<◌, refl, ap, ◌∙◌, arith}
use Rattle.std.specs.Prelude.{ℤ, pos, negsuc, ◌*ℤ◌}
use Rattle.std.specs.Int.{cast_signed, cast_unsigned}
use Rattle.std.specs.Int.RustNames.{int_div}
use Rattle.std.proofs.lemmas.Int.{of_z-to_z}
use mir.Syntax.{Width, w16, w32}

-- the bits of a signed number
abbrev pub unsigned_of : Width → ℤ → ℕ
unsigned_of w z = cast_unsigned w z

-- the signed number that some bits stand for
abbrev pub signed_of : Width → ℕ → ℤ
signed_of w n = cast_signed w n

-- the bits of half of a distance
abbrev pub half_of : Width → ℤ → ℕ
half_of w z = cast_unsigned w (int_div z (pos 2))

-- the distance whose half some bits stand for
abbrev pub signed_distance : Width → ℕ → ℤ
signed_distance w n = pos 2 *ℤ cast_signed w n

pub half_twice : (z : ℤ) → int_div (pos 2 *ℤ z) (pos 2) ≡ z
half_twice (pos n) = let e : 2 * n / 2 ≡ n = omega arith in ap pos e
half_twice (negsuc n) = let e : 2 * suc n ≡ suc (2 * n + 1) = omega arith in let g : suc (2 * n + 1) / 2 ≡ suc n = omega arith in rw (e, g) refl

pub half16_round_trip : (n : ℕ) → n < 2 ^ 16 → half_of w16 (signed_distance w16 n) ≡ n
half16_round_trip n h = ap (cast_unsigned w16) (half_twice (cast_signed w16 n)) ∙ of_z-to_z w16 n h

pub half32_round_trip : (n : ℕ) → n < 2 ^ 32 → half_of w32 (signed_distance w32 n) ≡ n
half32_round_trip n h = ap (cast_unsigned w32) (half_twice (cast_signed w32 n)) ∙ of_z-to_z w32 n h
