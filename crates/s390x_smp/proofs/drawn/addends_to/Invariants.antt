use Rattle.std.proofs.Common.{◌≡◌, ◌-◌, ◌++◌}
use Rattle.s390x_smp.specs.Drawn.{addends_to}
use Rattle.s390x_smp.proofs.drawn.addends_to.Given as goal

abbrev pub invariant-loop-number : goal.invariant-loop-number
invariant-loop-number l = l.addends.items ++ addends_to l.number (l.fn.count - l.number) ≡ addends_to 0 l.fn.count
