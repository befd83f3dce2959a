use Rattle.s390x_job_plan.proofs.Registers.{each_register}
use Rattle.s390x_job_plan.proofs.law.descriptions_name_each_register.Goals as goal

pub returns : goal.returns
returns c = each_register
