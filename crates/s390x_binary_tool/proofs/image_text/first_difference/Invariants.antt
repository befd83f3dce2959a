use Rattle.s390x_binary_tool.proofs.Differences.{SameTo}
use Rattle.s390x_binary_tool.proofs.image_text.first_difference.Given as goal

abbrev pub invariant-loop-at : goal.invariant-loop-at
invariant-loop-at l = SameTo l.first l.second l.at
