use Rattle.std.proofs.Common.{Bool, List, Result, drop, map}
use Rattle.s390x_operands.specs.declared.constraint.OperandError.{OperandError}
use Rattle.s390x_operands.specs.declared.constraint.Reported.{Reported}
use Rattle.s390x_operands.specs.Requests.{Reports, reported_use}
use Rattle.s390x_operands.proofs.report.report_uses.Given as goal

abbrev pub invariant-loop-reg : goal.invariant-loop-reg
invariant-loop-reg g l = record {
  rest : (n : List Reported) (d : Bool) (r : Result (Unit {0}) OperandError) → Reports l.denied (map reported_use (drop l.reg-index l.uses)) (g.V.OperandVisitor.items l.v) n (g.V.OperandVisitor.denies l.v) d r → Reports l.denied (map reported_use l.uses) (g.V.OperandVisitor.items l.initial.v) n (g.V.OperandVisitor.denies l.initial.v) d r;
}
