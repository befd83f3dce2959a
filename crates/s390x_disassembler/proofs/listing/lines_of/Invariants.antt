use Rattle.std.proofs.Common.{length, ◌-◌, ◌≤◌}
use Rattle.s390x_disassembler.specs.Lines.{Covers}
use Rattle.s390x_disassembler.proofs.listing.lines_of.Given as goal

-- the lines so far
abbrev pub invariant-loop-offset : goal.invariant-loop-offset
invariant-loop-offset l = record {
  covers : Covers l.code 0 l.offset l.lines.items;
  inside : l.offset ≤ length l.code;
}

abbrev pub decreases-loop-offset : goal.decreases-loop-offset
decreases-loop-offset l = length l.code - l.offset
