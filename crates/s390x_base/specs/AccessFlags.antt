-- What is known of a memory access, as contracts see it.
use Rattle.std.specs.Prelude.{Bool, Option}
use Rattle.s390x_base.specs.declared.trap.TrapKind.{TrapKind}

-- whether the address is a multiple of the width, and the code of a trap; where there is none, the access doesn't fault
pub record AccessFlags : Type 0 where
  pub aligned : Bool
  pub trap : Option TrapKind
