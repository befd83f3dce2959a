use Rattle.std.proofs.Common.{◌≡◌, take, map}
use Rattle.s390x_buffer.specs.Finish.{bound_handler}
use Rattle.s390x_buffer.specs.Patch.{offset_of_label}
use Rattle.s390x_buffer.proofs.finish.place_handlers.Given as goal

abbrev pub invariant-loop-h : goal.invariant-loop-h
invariant-loop-h l = l.entries.items ≡ map (bound_handler (offset_of_label l.labels)) (take l.h-index l.handlers)
