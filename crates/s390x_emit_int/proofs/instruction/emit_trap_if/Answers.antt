use Rattle.std.proofs.Common.{ap, ◌∙◌, arith}
use Rattle.s390x_buffer.specs.State.{put_cause}
use Rattle.s390x_emit_int.proofs.Leaves.{length-ril_c}
use Rattle.s390x_emit_int.proofs.instruction.emit_trap_if.Goals as goal

pub put_trapping-requires : goal.put_trapping-requires
put_trapping-requires c = omega (arith, length-ril_c _ _ c.in_ok-code.ensures.bytes_are)

pub returns-clause-only_memory : goal.returns-clause-only_memory
returns-clause-only_memory c = λ put. c.put_trapping.ensures.only_memory (ap (put_cause c.args.sink.now) (length-ril_c _ _ c.in_ok-code.ensures.bytes_are) ∙ put)
