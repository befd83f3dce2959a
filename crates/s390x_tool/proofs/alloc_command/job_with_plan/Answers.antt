use Rattle.std.proofs.Common.{subst}
use Rattle.s390x_alloc.specs.Answered.{IsAnswered}
use Rattle.s390x_alloc.specs.Blocks.{IsFault}
use Rattle.s390x_alloc.specs.Checked.{plan_contents}
use Rattle.s390x_tool.proofs.Allocating.{answer_of_fault, answer_of_plan}
use Rattle.s390x_tool.proofs.alloc_command.job_with_plan.Goals as goal

pub returns-in-Ok : goal.returns-in-Ok
returns-in-Ok c =
    let p = c.args.planned in
    let answered = subst (λ layout. IsAnswered layout p.job.function p.plan c.in-Ok.function) c.frame_layout.ensures c.in-Ok.ensures.answer in
    answer_of_plan c.args.input.now _ _ p c.in-Ok.function c.lines_of_job.result c.answered_jobs_are_jobs.ensures c.requires answered c.in-Ok.ensures.walks c.lines_of_job.ensures c.with_text.ensures

pub returns : goal.returns
returns c =
    let p = c.args.planned in
    let cause = subst (λ layout. IsFault (plan_contents layout p.job.function.blocks.items p.plan.blocks.items) c.in-Err.fault) c.frame_layout.ensures c.in-Err.ensures.answer in
    answer_of_fault c.args.input.now _ _ p c.in-Err.fault c.requires cause c.plan_refused.ensures
