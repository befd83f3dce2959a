use Rattle.std.proofs.Common.{sym, ap, ◌∙◌}
use Rattle.s390x_lanes.specs.Results.{vector_result}
use Rattle.s390x_lanes.specs.declared.operators.VectorOperation.{VectorOperation}
use Rattle.s390x_machine.proofs.elements_step.value_of.Goals as goal

pub returns-in-Binary : goal.returns-in-Binary
returns-in-Binary c = c.binary_value.ensures ∙ sym (ap (λ (o : VectorOperation). vector_result o c.args.vectors.first c.args.vectors.second c.args.vectors.third c.args.vectors.fourth) c.in-Binary.is)
