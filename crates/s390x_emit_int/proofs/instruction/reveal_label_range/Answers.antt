use Rattle.std.proofs.Common.{length, arith}
use Rattle.s390x_emit_int.proofs.Plain.{numbers_none}
use Rattle.s390x_emit_int.proofs.instruction.reveal_label_range.Goals as goal

pub returns : goal.returns
returns c = numbers_none (length c.args.sink.now.labels) (omega (arith, c.label_count-count.ensures.below, c.label_count-count.ensures.value))
