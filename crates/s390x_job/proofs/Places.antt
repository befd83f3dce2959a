-- A state that is not done is not at its end.
use Rattle.std.proofs.Common.{◌≡◌, ℕ, ◌<◌, Bool, true, false, refl, arith}
use Rattle.std.specs.Prelude.{◌==◌}
use Rattle.std.proofs.lemmas.Bool.Decides.{nat_tests}
use Rattle.s390x_job.specs.Grammar.{AtEnd}
use Rattle.s390x_job.specs.Builds.{place_at}
use Rattle.s390x_job.specs.declared.build.Body.{Body}
use Rattle.s390x_job.specs.declared.build.Progress.{Progress}
use Rattle.s390x_job.specs.declared.build.Progress.TheVariants.{Head, Inside, Done}

pub not_done : (q : Progress) (b : Body) → (q ≡ Done → ⊥) → place_at q b ≡ AtEnd → ⊥
not_done (Head x y) b h e = cc
not_done Inside b h e = cc
not_done Done b h e = h refl

-- what a test of a length with 0 tells
pub some_left : (n : ℕ) (b : Bool) → b ≡ (n == 0) → b ≡ false → 0 < n
some_left n b e f = grind (arith, nat_tests)

pub none_left : (n : ℕ) (b : Bool) → b ≡ (n == 0) → b ≡ true → n ≡ 0
none_left n b e f = grind (arith, nat_tests)
