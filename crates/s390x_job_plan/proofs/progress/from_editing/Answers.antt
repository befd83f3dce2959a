use Rattle.std.proofs.Common.{refl}
use Rattle.s390x_job_plan.specs.Lines.{Closing, Opening}
use Rattle.s390x_job_plan.proofs.Plans.{more_blocks}
use Rattle.s390x_job_plan.proofs.progress.from_editing.Goals as goal

pub returns-in_ok-push-in-Block : goal.returns-in_ok-push-in-Block
returns-in_ok-push-in-Block c =
    let e = more_blocks c.args.blocks.items c.push.new.self.items (record { entry = c.args.entry; edits = c.args.edits }) Opening c.in_ok-push-in-Block.ensures.items in
    rw (c.in-Block.is, c.new-entry.ensures.items) (refl, e)

pub returns-in_ok-push-in-Close : goal.returns-in_ok-push-in-Close
returns-in_ok-push-in-Close c =
    let e = more_blocks c.args.blocks.items c.push-in-Close.new.self.items (record { entry = c.args.entry; edits = c.args.edits }) Closing c.in_ok-push-in-Close.ensures.items in
    rw c.in-Close.is (refl, e)
