use Rattle.std.proofs.Common.{◌≡◌, ◌++◌, ◌<◌, drop, string_bytes}
use Rattle.s390x_disassembler.specs.Text.{operands_text}
use Rattle.s390x_disassembler.proofs.text.put_operands.Given as goal

-- what is written, with the operands that are left
abbrev pub invariant-loop-operand : goal.invariant-loop-operand
invariant-loop-operand l = record {
  written : string_bytes l.out ++ operands_text l.separator l.address l.letters l.fields (drop l.operand-index l.operands) ≡ string_bytes l.initial.out ++ operands_text 32 l.address l.letters l.fields l.operands;
  ascii : l.separator < 128;
}
