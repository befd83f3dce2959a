use Rattle.std.specs.Prelude.{take}
use Rattle.s390x_smp.specs.Stores.{RunsAs}
use Rattle.s390x_smp.specs.View.{simulation}
use Rattle.s390x_smp.proofs.smp.Smp.run.Given as goal

-- the steps before this position are done
abbrev pub invariant-loop-at : goal.invariant-loop-at
invariant-loop-at l = RunsAs (simulation l.initial.self) (take l.at l.schedule) (simulation l.self)
