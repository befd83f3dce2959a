use Rattle.s390x_emit_int.proofs.Linked.{runs_as_typed}
use Rattle.s390x_emit_int.proofs.headline.linked_code_runs_as_typed.Goals as goal

pub returns : goal.returns
returns c = runs_as_typed
