use Rattle.std.proofs.Common.{◌≡◌, arith}
use Rattle.s390x_calls.proofs.Ending.{on_text}
use Rattle.s390x_job_plan.specs.Text.{IsPlannedOf}
use Rattle.s390x_c_allocation.specs.Plans.{ChecksPlanTo, IsPlanSyntax}
use Rattle.s390x_c_allocation.proofs.plan.checked_plan.Goals as goal

pub returns-in-Ok : goal.returns-in-Ok
returns-in-Ok c =
    on_text c.args.input.now (IsPlannedOf c.args.input.now) (IsPlanSyntax c.args.input.now c.check_planned.new.reason) (Unit {0})
    (c.check_planned.new.reason ≡ c.args.reason.now) (ChecksPlanTo c.args.reason.now c.check_planned.new.reason)
    c.in-Ok.planned c.check_planned.result (omega arith) c.in-Ok.ensures.planned (λ e. e) (λ e. e) (λ e. (tt, e)) c.check_planned.ensures
