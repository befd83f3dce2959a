use Rattle.std.proofs.Common.{ap, ◌∙◌, length}
use Rattle.s390x_buffer.specs.State.{put_cause}
use Rattle.s390x_address.specs.Rows.{row_of}
use Rattle.s390x_address.proofs.OnlyMemory.{length-bytes}
use Rattle.s390x_address.proofs.memory.put_storage_row.Goals as goal

pub returns-clause-only_memory : goal.returns-clause-only_memory
returns-clause-only_memory c = λ put encoded. c.put_row.ensures.only_memory (ap (put_cause c.args.sink.now) (ap length c.in_ok-code.ensures ∙ length-bytes (row_of c.args.row.now)) ∙ put)
