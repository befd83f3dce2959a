use Rattle.s390x_smp.proofs.Starting.{StartedTo}
use Rattle.s390x_smp.proofs.smp.started_machines.Given as goal

-- those of the numbers before stand at their beginnings
abbrev pub invariant-loop-number : goal.invariant-loop-number
invariant-loop-number l = StartedTo l.base l.word l.addends l.machines.items l.number
