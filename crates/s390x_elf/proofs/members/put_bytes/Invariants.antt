use Rattle.std.proofs.Common.{◌≡◌, ◌++◌, replicate}
use Rattle.s390x_elf.proofs.members.put_bytes.Given as goal

abbrev pub invariant-loop-i : goal.invariant-loop-i
invariant-loop-i l = l.bytes.items ≡ l.initial.bytes.items ++ replicate l._i 0
