-- A set without members.
use Rattle.std.proofs.Common.{◌≡◌, ℕ, zero, suc, Bool, false, List, [], ◌++◌, refl, sym, ap, ◌∙◌}
use Rattle.std.specs.Prelude.{codes}
use Rattle.s390x_base.specs.Registers.{RealRegister, general, vector}
use Rattle.s390x_base.specs.Sets.{has}
use Rattle.s390x_base.specs.declared.sets.PRegSet.{PRegSet}
use Rattle.s390x_job_fields.specs.Sets.{members_below, members_of, is_in}
use Rattle.s390x_job_fields.specs.Fields.{FSet, spell}
use Rattle.s390x_job_exact.specs.Exact.{Takes}

none_below : (of : ℕ → RealRegister) (f : RealRegister → Bool) → ((r : RealRegister) → f r ≡ false) → (n : ℕ) → members_below of f n ≡ []
none_below of f h zero = refl
none_below of f h (suc n) = rw (none_below of f h n, h (of n)) refl

none : (f : RealRegister → Bool) → ((r : RealRegister) → f r ≡ false) → members_of f ≡ []
unfolding members_of
none f h = ap (λ xs. xs ++ members_below vector f 32) (none_below general f h 16) ∙ none_below vector f h 32

pub empty : (p : PRegSet) (s t : List ℕ) → ((r : RealRegister) → has p r ≡ false) → s ≡ codes " []" ++ t → Takes (FSet (members_of (has p))) s t
empty p s t h e =
    let n = none (has p) h in
    record {
      taken = e ∙ ap (λ rs. spell (FSet rs) ++ t) (sym n);
      in_range = n ∙ sym (none (is_in (members_of (has p))) (λ r. ap (λ rs. is_in rs r) n));
    }
