use Rattle.std.proofs.Common.{◌≡◌, drop}
use Rattle.std.specs.Prelude.{◌||◌}
use Rattle.s390x_base.specs.Registers.{RealRegister}
use Rattle.s390x_base.specs.Sets.{has}
use Rattle.s390x_job_fields.specs.Sets.{is_in}
use Rattle.s390x_job_fields.proofs.sets.set_of.Given as goal

abbrev pub invariant-loop-r : goal.invariant-loop-r
invariant-loop-r l = (r : RealRegister) → (has l.set r || is_in (drop l.r-index l.rs) r) ≡ is_in l.rs r
