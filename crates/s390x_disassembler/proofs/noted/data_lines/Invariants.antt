use Rattle.std.proofs.Common.{length, ◌-◌, ◌≤◌}
use Rattle.s390x_disassembler.specs.Noted.{CoversData}
use Rattle.s390x_disassembler.proofs.noted.data_lines.Given as goal

-- the lines so far
abbrev pub invariant-loop-offset : goal.invariant-loop-offset
invariant-loop-offset l = record {
  covers : CoversData l.code l.start l.offset l.lines.items;
  inside : l.offset ≤ length l.code;
}

abbrev pub decreases-loop-offset : goal.decreases-loop-offset
decreases-loop-offset l = length l.code - l.offset
