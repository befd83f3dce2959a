use Rattle.s390x_emit_int.proofs.Finishing.{always_finishes}
use Rattle.s390x_emit_int.proofs.completeness.checked_functions_finish.Goals as goal

pub returns : goal.returns
returns c = always_finishes
