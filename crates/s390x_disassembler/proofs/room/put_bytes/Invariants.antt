use Rattle.std.proofs.Common.{◌≡◌, ◌++◌, drop}
use Rattle.s390x_disassembler.specs.Fitted.{fitting_text}
use Rattle.s390x_disassembler.proofs.room.put_bytes.Given as goal

-- what is written, with the bytes that are left
abbrev pub invariant-loop-byte : goal.invariant-loop-byte
invariant-loop-byte l = fitting_text (l.out.items ++ drop l.byte-index l.bytes) ≡ fitting_text (l.initial.out.items ++ l.bytes)
