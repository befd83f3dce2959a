use Rattle.std.proofs.Common.{◌≡◌, ◌-◌, ◌++◌}
use Rattle.s390x_smp.specs.Drawn.{drawn_numbers}
use Rattle.s390x_smp.proofs.drawn.drawn_schedule.Given as goal

-- the numbers so far, with those that are drawn from here on, are all
abbrev pub invariant-loop-step : goal.invariant-loop-step
invariant-loop-step l = l.schedule.items ++ drawn_numbers l.fn.count (l.fn.steps - l._step) l.drawn ≡ drawn_numbers l.fn.count l.fn.steps l.fn.start
