use Rattle.std.proofs.Common.{◌≡◌, ℕ, List, length, drop}
use Rattle.s390x_disassembler.specs.Operands.{AreKnown, AreWritten}
use Rattle.s390x_disassembler.proofs.OperandList.{IsLeft, IsSeparator}
use Rattle.s390x_disassembler.proofs.reading.put_operands.Given as goal

-- where the operands are written of some values, those that are left are, and the others are known
abbrev pub invariant-loop-operand : goal.invariant-loop-operand
invariant-loop-operand l = record {
  ten : length l.slots ≡ 10;
  separator : IsSeparator l.separator;
  left : (letters values more : List ℕ) → AreWritten l.format l.address 32 letters l.operands values l.text more → AreKnown l.format letters l.operands values l.initial.slots → IsLeft l.format l.address l.separator letters (drop l.operand-index l.operands) values l.slots l.rest more;
}
