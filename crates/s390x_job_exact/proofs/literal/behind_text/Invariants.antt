use Rattle.std.proofs.Common.{◌≡◌, ◌++◌, take}
use Rattle.s390x_job_exact.proofs.literal.behind_text.Given as goal

abbrev pub invariant-loop-x : goal.invariant-loop-x
invariant-loop-x l = l.s ≡ take l.x-index l.text ++ l.left
