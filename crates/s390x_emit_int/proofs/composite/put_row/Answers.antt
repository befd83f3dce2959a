use Rattle.std.proofs.Common.{ap, ◌∙◌, length}
use Rattle.s390x_buffer.specs.State.{put_cause}
use Rattle.s390x_emit_int.proofs.OnlyMemory.{only_memory_of_call}
use Rattle.s390x_emit_int.proofs.Runs.{length-bytes}
use Rattle.s390x_emit_int.proofs.composite.put_row.Goals as goal

pub returns-clause-only_memory : goal.returns-clause-only_memory
returns-clause-only_memory c = λ m is put. only_memory_of_call _ _ _ c.put_code.result c.put_code.ensures.answer (ap (put_cause c.args.sink.now) (ap length is ∙ length-bytes m) ∙ put)
