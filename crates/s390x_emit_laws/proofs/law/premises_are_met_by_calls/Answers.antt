use Rattle.s390x_emit_laws.proofs.Baseline.{loads_calls_and_leaves}
use Rattle.s390x_emit_laws.proofs.law.premises_are_met_by_calls.Goals as goal

pub returns : goal.returns
returns c = loads_calls_and_leaves
