use Rattle.std.proofs.Common.{◌≡◌, ◌++◌, drop}
use Rattle.s390x_disassembler.specs.Text.{operands_text}
use Rattle.s390x_disassembler.specs.Fitted.{fitting_text}
use Rattle.s390x_disassembler.proofs.fitted_text.put_operands.Given as goal

-- what is written, with the operands that are left
abbrev pub invariant-loop-operand : goal.invariant-loop-operand
invariant-loop-operand l = fitting_text (l.out.items ++ operands_text l.separator l.address l.letters l.fields (drop l.operand-index l.operands)) ≡ fitting_text (l.initial.out.items ++ operands_text 32 l.address l.letters l.fields l.operands)
