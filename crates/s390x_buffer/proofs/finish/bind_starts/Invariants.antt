use Rattle.std.proofs.Common.{◌≡◌, ◌+◌, take, length}
use Rattle.s390x_buffer.specs.Finish.{bind_constants}
use Rattle.s390x_buffer.proofs.finish.bind_starts.Given as goal

abbrev pub invariant-loop-start : goal.invariant-loop-start
invariant-loop-start l = record {
  label : l.label ≡ l.first + l.start-index;
  bound : l.labels ≡ bind_constants l.first (take l.start-index l.starts) l.initial.labels;
  long : length l.labels ≡ length l.initial.labels;
}
