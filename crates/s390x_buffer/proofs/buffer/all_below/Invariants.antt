use Rattle.std.proofs.Common.{◌≡◌, drop}
use Rattle.s390x_buffer.specs.State.{labels_below}
use Rattle.s390x_buffer.proofs.buffer.all_below.Given as goal

abbrev pub invariant-loop-h : goal.invariant-loop-h
invariant-loop-h l = labels_below l.count (drop l.h-index l.handlers) ≡ labels_below l.count l.handlers
