use Rattle.std.proofs.Common.{List, subst}
use Rattle.std.specs.Prelude.{IsOk}
use Rattle.s390x_inst.specs.declared.function.Block.{Block}
use Rattle.s390x_alloc.specs.declared.plan.BlockPlan.{BlockPlan}
use Rattle.s390x_alloc.specs.Checked.{plan_contents}
use Rattle.s390x_alloc.proofs.Walking.{faultless_walks, same_count}
use Rattle.s390x_alloc.proofs.plan_check.check_plan.Goals as goal

pub answer_blocks-requires : goal.answer_blocks-requires
answer_blocks-requires c = let counted = same_count c.args.layout.now c.deref.result.now c.deref-2.result.now c.in_ok-check_faults.ensures in cc

pub returns-clause-walks : goal.returns-clause-walks
returns-clause-walks c =
    let first = subst (λ (l : List Block). IsOk (plan_contents c.args.layout.now l c.deref-2.result.now)) c.deref.ensures.value c.in_ok-check_faults.ensures in
    let faultless = subst (λ (l : List BlockPlan). IsOk (plan_contents c.args.layout.now c.args.function.now.blocks.items l)) c.deref-2.ensures.value first in
    faultless_walks c.args.layout.now c.args.function.now.blocks.items c.args.plan.now.blocks.items faultless
