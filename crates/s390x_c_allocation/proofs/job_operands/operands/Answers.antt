use Rattle.std.proofs.Common.{arith}
use Rattle.s390x_calls.proofs.Ending.{on_job}
use Rattle.s390x_calls.specs.Put.{NoEntryIsWritten}
use Rattle.s390x_c_allocation.specs.Operands.{ReportsJobTo}
use Rattle.s390x_c_allocation.proofs.job_operands.operands.Goals as goal

pub returns-in-Ok : goal.returns-in-Ok
returns-in-Ok c =
    on_job c.args.input.now c.args.reason.now c.operands_of_job.new.reason
    (NoEntryIsWritten c.args.out.now c.operands_of_job.new.out c.args.count.now c.operands_of_job.new.count)
    (ReportsJobTo c.args.out.now c.operands_of_job.new.out c.args.count.now c.operands_of_job.new.count c.args.reason.now c.operands_of_job.new.reason)
    c.in-Ok.job c.operands_of_job.result (omega arith) c.in-Ok.ensures.job.0 c.in-Ok.ensures.job.1 c.in-Ok.ensures.one (λ e. e) (λ e. e) (λ e. e) c.operands_of_job.ensures
