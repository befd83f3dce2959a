use Rattle.std.proofs.Common.{Bool, List, Result, drop, map}
use Rattle.s390x_operands.specs.declared.constraint.OperandError.{OperandError}
use Rattle.s390x_operands.specs.declared.constraint.Reported.{Reported}
use Rattle.s390x_operands.specs.Requests.{Reports}
use Rattle.s390x_operands.specs.Calls.{reported_argument}
use Rattle.s390x_operands.proofs.calls.report_arguments.Given as goal

abbrev pub invariant-loop-pair : goal.invariant-loop-pair
invariant-loop-pair g l = record {
  rest : (n : List Reported) (d : Bool) (r : Result (Unit {0}) OperandError) → Reports l.denied (map reported_argument (drop l.pair-index l.pairs)) (g.V.OperandVisitor.items l.v) n (g.V.OperandVisitor.denies l.v) d r → Reports l.denied (map reported_argument l.pairs) (g.V.OperandVisitor.items l.initial.v) n (g.V.OperandVisitor.denies l.initial.v) d r;
}
