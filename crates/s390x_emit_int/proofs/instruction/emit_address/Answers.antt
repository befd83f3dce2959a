use Rattle.s390x_emit_int.proofs.Leaves.{length-ril_b}
use Rattle.s390x_emit_int.proofs.instruction.emit_address.Goals as goal

pub returns-clause-only_memory : goal.returns-clause-only_memory
returns-clause-only_memory c = λ p general. c.put_with_distance.ensures.only_memory p (length-ril_b _ _ c.in_ok-code.ensures.1.bytes_are)
