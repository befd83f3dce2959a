use Rattle.std.proofs.Common.{sym, ap, ◌∙◌, arith}
use Rattle.s390x_lanes.specs.Results.{vector_result}
use Rattle.s390x_lanes.specs.declared.operators.BinaryOperator.{BinaryOperator}
use Rattle.s390x_lanes.specs.declared.operators.VectorOperation.TheVariants.{Binary}
use Rattle.s390x_lanes.specs.declared.size.ElementSize.TheVariants.{Quadword}
use Rattle.s390x_machine.proofs.VectorSums.{ands, ors, xors}
use Rattle.s390x_machine.proofs.elements_step.whole_value.Goals as goal

pub returns-in-And : goal.returns-in-And
returns-in-And c = ands c.args.vectors.first c.args.vectors.second c.args.vectors.third c.args.vectors.fourth (omega arith) (omega arith) ∙ sym (ap (λ (o : BinaryOperator). vector_result (Binary o Quadword) c.args.vectors.first c.args.vectors.second c.args.vectors.third c.args.vectors.fourth) c.in-And.is)

pub returns-in-Or : goal.returns-in-Or
returns-in-Or c = ors c.args.vectors.first c.args.vectors.second c.args.vectors.third c.args.vectors.fourth (omega arith) (omega arith) ∙ sym (ap (λ (o : BinaryOperator). vector_result (Binary o Quadword) c.args.vectors.first c.args.vectors.second c.args.vectors.third c.args.vectors.fourth) c.in-Or.is)

pub returns-in-Xor : goal.returns-in-Xor
returns-in-Xor c = xors c.args.vectors.first c.args.vectors.second c.args.vectors.third c.args.vectors.fourth (omega arith) (omega arith) ∙ sym (ap (λ (o : BinaryOperator). vector_result (Binary o Quadword) c.args.vectors.first c.args.vectors.second c.args.vectors.third c.args.vectors.fourth) c.in-Xor.is)
