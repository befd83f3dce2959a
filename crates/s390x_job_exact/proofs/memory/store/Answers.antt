use Rattle.s390x_job_exact.proofs.Lines.{store}
use Rattle.s390x_job_exact.proofs.memory.store.Goals as goal

pub returns : goal.returns
returns c = store c.args.op _ _ c.instruction.result _ _ _ c.instruction.ensures c.in_ok-rd.ensures c.in_ok-mem.ensures c.in_ok-end.ensures
