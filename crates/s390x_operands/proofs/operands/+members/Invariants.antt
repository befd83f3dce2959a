use Rattle.std.proofs.Common.{Bool, true, List, Result, drop}
use Rattle.s390x_operands.specs.declared.constraint.OperandError.{OperandError}
use Rattle.s390x_operands.specs.declared.constraint.Reported.{Reported}
use Rattle.s390x_operands.specs.Requests.{Reports}
use Rattle.s390x_operands.specs.Operands.{members_requests}
use Rattle.s390x_operands.proofs.operands.+members.Given as goal

abbrev pub invariant-report_members-loop-inst : goal.invariant-report_members-loop-inst
invariant-report_members-loop-inst g l = record {
  rest : (n : List Reported) (d : Bool) (r : Result (Unit {0}) OperandError) → Reports true (members_requests (drop l.inst-index l.insts)) (g.V.OperandVisitor.items l.v) n (g.V.OperandVisitor.denies l.v) d r → Reports true (members_requests l.insts) (g.V.OperandVisitor.items l.initial.v) n (g.V.OperandVisitor.denies l.initial.v) d r;
}
