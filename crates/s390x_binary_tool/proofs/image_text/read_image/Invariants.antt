use Rattle.std.proofs.Common.{◌+◌, ◌≤◌, length}
use Rattle.s390x_binary_tool.proofs.HexLines.{Read}
use Rattle.s390x_binary_tool.proofs.image_text.read_image.Given as goal

abbrev pub invariant-lines : goal.invariant-lines
invariant-lines l = record {
  read : Read l.text l.rest l.image.items l.number;
  few : l.number + length l.rest ≤ length l.text + 1;
}

abbrev pub decreases-lines : goal.decreases-lines
decreases-lines l = length l.rest
