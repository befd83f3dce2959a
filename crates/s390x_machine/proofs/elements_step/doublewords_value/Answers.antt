use Rattle.std.proofs.Common.{sym, ap, ◌∙◌}
use Rattle.s390x_lanes.specs.Results.{vector_result}
use Rattle.s390x_lanes.specs.declared.operators.BinaryOperator.{BinaryOperator}
use Rattle.s390x_lanes.specs.declared.operators.VectorOperation.TheVariants.{Binary}
use Rattle.s390x_lanes.specs.declared.size.ElementSize.TheVariants.{Doubleword}
use Rattle.s390x_machine.proofs.elements_step.doublewords_value.Goals as goal

pub returns-in-Add : goal.returns-in-Add
returns-in-Add c = c.sum_of_doublewords.ensures c.args.vectors.first c.args.vectors.fourth ∙ sym (ap (λ (o : BinaryOperator). vector_result (Binary o Doubleword) c.args.vectors.first c.args.vectors.second c.args.vectors.third c.args.vectors.fourth) c.in-Add.is)
