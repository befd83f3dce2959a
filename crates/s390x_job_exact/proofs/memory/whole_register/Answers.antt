use Rattle.s390x_job_exact.proofs.Lines.{whole_access}
use Rattle.s390x_job_exact.proofs.memory.whole_register.Goals as goal

pub returns : goal.returns
returns c =
    whole_access c.args.direction c.args.layout _ _ c.instruction.result _ _ _ c.instruction.ensures c.in_ok-rd.ensures c.in_ok-mem.ensures c.in_ok-end.ensures
