use Rattle.s390x_alloc.proofs.Following.{EndsAt}
use Rattle.s390x_alloc.proofs.blocks.check_blocks.Given as goal

abbrev pub invariant-loop-number : goal.invariant-loop-number
invariant-loop-number l = EndsAt l.layout l.blocks l.plans l.number l.ends.items
