use Rattle.s390x_job_exact.proofs.Lines.{load}
use Rattle.s390x_job_exact.proofs.memory.load.Goals as goal

pub returns : goal.returns
returns c = load c.args.op _ _ c.instruction.result _ _ _ c.instruction.ensures c.in_ok-rd.ensures c.in_ok-mem.ensures c.in_ok-end.ensures
