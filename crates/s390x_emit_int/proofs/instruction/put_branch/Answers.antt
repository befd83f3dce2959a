use Rattle.s390x_emit_int.proofs.Leaves.{length-ril_c}
use Rattle.s390x_emit_int.proofs.instruction.put_branch.Goals as goal

pub returns-clause-only_memory : goal.returns-clause-only_memory
returns-clause-only_memory c = λ p. c.put_with_distance.ensures.only_memory p (length-ril_c _ _ c.in_ok-code.ensures.bytes_are)
