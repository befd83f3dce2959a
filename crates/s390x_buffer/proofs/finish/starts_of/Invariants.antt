use Rattle.std.proofs.Common.{◌≡◌}
use Rattle.s390x_buffer.specs.Finish.{offsets_of}
use Rattle.s390x_buffer.proofs.finish.starts_of.Given as goal

abbrev pub invariant-loop-l : goal.invariant-loop-l
invariant-loop-l l = l.starts.items ≡ offsets_of l.labels l.l-index
