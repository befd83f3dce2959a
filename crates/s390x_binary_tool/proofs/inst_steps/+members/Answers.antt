use Rattle.std.proofs.Common.{◌≡◌, ◌+◌, drop, refl, subst, sym, arith}
use Rattle.std.specs.Prelude.{IfOk}
use Rattle.s390x_binary_tool.specs.InstSteps.{steps_of, steps_of_all}
use Rattle.s390x_binary_tool.proofs.Counting.{drops_went, plain, whole_loop}
use Rattle.s390x_binary_tool.proofs.Pushing.{item}
use Rattle.s390x_binary_tool.proofs.inst_steps.+members.Goals as goal

pub behind_members-loop-inst-preserved : goal.behind_members-loop-inst-preserved
behind_members-loop-inst-preserved t c =
    drops_went (steps_of c.args.state.now) (steps_of_all c.args.state.now) (λ x xs. refl) c.args.insts.now c.loop-inst.inst-index c.inst-item.result c.loop-inst.left.now _ _
    (item c.args.insts.now c.loop-inst.inst-index c.inst-item.result c.inst-item.result (omega arith) c.inst-item.is) c.in_ok-left.ensures c.loop-inst.invariant

pub behind_inst-returns-in-Loop : goal.behind_inst-returns-in-Loop
behind_inst-returns-in-Loop t c =
    let g = whole_loop c.args.state.now c.args.inst.now c.in-Loop.cond c.in-Loop.body c.deref.result.now c.in-Loop.is c.deref.ensures.value in
    subst (λ n. IfOk c.behind_loop.result (λ left. left.now ≡ drop n c.args.starts.now)) (sym g) c.behind_loop.ensures

pub behind_inst-returns-in_default : goal.behind_inst-returns-in_default
behind_inst-returns-in_default t c =
    subst (λ n. IfOk c.behind_leaf.result (λ left. left.now ≡ drop n c.args.starts.now)) (sym (plain c.args.state.now c.args.inst.now c.in_default.not-Loop)) c.behind_leaf.ensures
