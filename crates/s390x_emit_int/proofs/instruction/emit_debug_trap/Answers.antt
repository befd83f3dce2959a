use Rattle.std.proofs.Common.{ap, ◌∙◌}
use Rattle.s390x_buffer.specs.State.{put_cause}
use Rattle.s390x_emit_int.proofs.OnlyMemory.{only_memory_of_call}
use Rattle.s390x_emit_int.proofs.Leaves.{length-e}
use Rattle.s390x_emit_int.proofs.instruction.emit_debug_trap.Goals as goal

pub returns-clause-only_memory : goal.returns-clause-only_memory
returns-clause-only_memory c = λ put. only_memory_of_call _ _ _ c.put_code.result c.put_code.ensures.answer (ap (put_cause c.args.sink.now) (length-e _ _ c.in_ok-code.ensures.bytes_are) ∙ put)
