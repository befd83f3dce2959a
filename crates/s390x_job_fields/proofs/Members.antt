-- Numbers and truth values.
use Rattle.std.proofs.Common.{◌≡◌, ℕ, Bool, true, false, refl, arith}
use Rattle.std.specs.Prelude.{◌==◌, ◌||◌}
use Rattle.std.proofs.lemmas.Bool.Decides.{nat_tests}
pub use Rattle.std.proofs.lemmas.Bool.{cases_Bool as either}

pub number-self : (n : ℕ) → (n == n) ≡ true
number-self n = grind (arith, nat_tests)

pub or-false : (a : Bool) → (a || false) ≡ a
or-false true = refl
or-false false = refl
