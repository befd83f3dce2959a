use Rattle.std.proofs.Common.{◌≡◌, ◌++◌, ◌<◌, length, string_bytes}
use Rattle.s390x_disassembler.specs.Text.{bytes_text}
use Rattle.s390x_disassembler.proofs.text.put_bytes.Given as goal

-- what is written, with the bytes that are left
abbrev pub invariant-loop-rest : goal.invariant-loop-rest
invariant-loop-rest l = record {
  written : string_bytes l.out ++ bytes_text l.separator l.rest ≡ string_bytes l.initial.out ++ bytes_text 32 l.bytes;
  ascii : l.separator < 128;
}

abbrev pub decreases-loop-rest : goal.decreases-loop-rest
decreases-loop-rest l = length l.rest
