use Rattle.std.proofs.Common.{ap, ◌∙◌}
use Rattle.s390x_buffer.specs.State.{put_cause}
use Rattle.s390x_emit_int.proofs.OnlyMemory.{only_memory_of_call}
use Rattle.s390x_emit_int.proofs.Leaves.{length-rr}
use Rattle.s390x_emit_int.proofs.instruction.emit_branch_register.Goals as goal

pub returns-clause-only_memory : goal.returns-clause-only_memory
returns-clause-only_memory c = λ put register. only_memory_of_call _ _ _ c.put_code.result c.put_code.ensures.answer (ap (put_cause c.args.sink.now) (length-rr _ _ c.in_ok-code.ensures.1.bytes_are) ∙ put)
