use Rattle.std.proofs.Common.{sym, ap, ◌∙◌}
use Rattle.s390x_lanes.specs.Results.{vector_result}
use Rattle.s390x_lanes.specs.declared.operators.VectorOperation.TheVariants.{Binary}
use Rattle.s390x_lanes.specs.declared.size.ElementSize.{ElementSize}
use Rattle.s390x_machine.proofs.elements_step.binary_value.Goals as goal

pub returns-in-Doubleword : goal.returns-in-Doubleword
returns-in-Doubleword c = c.doublewords_value.ensures ∙ sym (ap (λ (s : ElementSize). vector_result (Binary c.args.operator s) c.args.vectors.first c.args.vectors.second c.args.vectors.third c.args.vectors.fourth) c.in-Doubleword.is)

pub returns-in-Quadword : goal.returns-in-Quadword
returns-in-Quadword c = c.whole_value.ensures ∙ sym (ap (λ (s : ElementSize). vector_result (Binary c.args.operator s) c.args.vectors.first c.args.vectors.second c.args.vectors.third c.args.vectors.fourth) c.in-Quadword.is)
