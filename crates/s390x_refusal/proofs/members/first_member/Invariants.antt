use Rattle.s390x_typed_steps.specs.Causes.{declared_in}
use Rattle.s390x_refusal.proofs.Stepping.{Walked}
use Rattle.s390x_refusal.proofs.members.first_member.Given as goal

abbrev pub invariant-loop-index : goal.invariant-loop-index
invariant-loop-index l = Walked l.flags (declared_in l.sink) l.fn.scope l.initial.state l.insts l.index l.state l.labels l.depth
