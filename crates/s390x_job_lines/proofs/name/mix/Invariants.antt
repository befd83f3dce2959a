use Rattle.std.proofs.Common.{◌≡◌, ◌<◌, drop}
use Rattle.s390x_job_lines.specs.Slots.{mix}
use Rattle.s390x_job_lines.proofs.name.mix.Given as goal

abbrev pub invariant-loop-x : goal.invariant-loop-x
invariant-loop-x l = (l.h < 512) × (mix l.h (drop l.x-index l.word) ≡ mix 0 l.word)
