-- Steps that emission lets pass are built.
use Rattle.s390x_typed_steps.specs.Steps.{Step}
use Rattle.s390x_machine.specs.CodeAt.{IsValidStep}
use Rattle.s390x_machine.specs.Layout.{Layout}
use Rattle.s390x_emit_laws.specs.Built.{IsBuilt}
use Rattle.s390x_emit_laws.proofs.Bytes.{silent_without_bytes}
use Rattle.s390x_emit_laws.proofs.Told.{told}

pub built : (L : Layout) (s : Step) → IsValidStep L s → IsBuilt L s
built L s valid = record { told = told L s valid; bytes = silent_without_bytes L s valid }
