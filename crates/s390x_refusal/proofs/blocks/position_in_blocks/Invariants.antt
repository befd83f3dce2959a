use Rattle.s390x_refusal.proofs.Placing.{BlocksWalked}
use Rattle.s390x_refusal.proofs.blocks.position_in_blocks.Given as goal

abbrev pub invariant-loop-number : goal.invariant-loop-number
invariant-loop-number l = BlocksWalked l.fn.flags l.fn.state l.fn.function l.number l.labels
