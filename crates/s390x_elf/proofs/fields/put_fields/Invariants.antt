use Rattle.std.proofs.Common.{◌≡◌, ◌++◌, drop}
use Rattle.s390x_elf.specs.Writing.{fields_bytes}
use Rattle.s390x_elf.proofs.fields.put_fields.Given as goal

-- what is left to put leads to what all fields lead to
abbrev pub invariant-loop-field : goal.invariant-loop-field
invariant-loop-field l = l.bytes.items ++ fields_bytes (drop l.field-index l.fields) ≡ l.initial.bytes.items ++ fields_bytes l.fields
