use Rattle.std.proofs.Common.{◌-◌, Bool, List, Result, map}
use Rattle.std.specs.List.{range_with_len}
use Rattle.s390x_operands.specs.declared.constraint.OperandError.{OperandError}
use Rattle.s390x_operands.specs.declared.constraint.Reported.{Reported}
use Rattle.s390x_operands.specs.Requests.{Reports, fixed_general}
use Rattle.s390x_operands.proofs.multiple.report_numbers.Given as goal

abbrev pub invariant-loop-number : goal.invariant-loop-number
invariant-loop-number g l = record {
  rest : (n : List Reported) (d : Bool) (r : Result (Unit {0}) OperandError) → Reports l.denied (map fixed_general (range_with_len l.number (l.end - l.number))) (g.V.OperandVisitor.items l.v) n (g.V.OperandVisitor.denies l.v) d r → Reports l.denied (map fixed_general (range_with_len l.low (l.end - l.low))) (g.V.OperandVisitor.items l.initial.v) n (g.V.OperandVisitor.denies l.initial.v) d r;
}
