use Rattle.s390x_base.specs.declared.error.EmitError.TheVariants.{NoMemory}
use Rattle.std.proofs.Common.{◌≡◌, ◌⊎◌, ◌∷◌, ◌++◌, [], None, Ok, Some, ap, refl, sym, subst, ◌∙◌}
use Rattle.s390x_inst.specs.Frames.{epilogue}
use Rattle.s390x_typed_steps.specs.Calls.{call_size, jump_target, loses_target, wholes}
use Rattle.s390x_typed_steps.specs.Causes.{declared_in, tail_cause, tree_cause}
use Rattle.s390x_typed_steps.specs.Tree.{Tree, TailJump, TailOpening, leaves}
use Rattle.s390x_emit_int.specs.Sequence.{AllKeepNominal, Counts}
use Rattle.s390x_emit_int.proofs.CallSites.{epilogue_keeps, jump_is_target}
use Rattle.s390x_emit_int.proofs.Sequence.{adds_none, body_checks, jump_checks, opening_refused, opening_valid, steps_refused}
use Rattle.s390x_emit_int.proofs.check_calls.check_tail_call.Goals as goal

pub returns-in_err-insts : goal.returns-in_err-insts
returns-in_err-insts c =
    let e = c.args.state.now in
    let info = c.args.info.now in
    let given = subst (λ l. (c.in_err-insts.field-0.0 ≡ NoMemory) ⊎ (tail_cause info.dest l.first_saved_gpr (loses_target l info.callee_pop_size info.dest) ≡ Some c.in_err-insts.field-0.0)) c.frame_layout.ensures c.in_err-insts.ensures in
    opening_refused c.args.context.flags (declared_in c.args.sink.now) c.args.t c.args.context.depth e.nominal info.dest e.layout.first_saved_gpr (loses_target e.layout info.callee_pop_size info.dest) (wholes e (epilogue e.layout info.callee_pop_size info.dest) ++ TailJump (jump_target info.dest) ∷ [])
    c.from_residual.result _ c.from_residual.ensures.1 given

pub check_steps-requires-clause-keep : goal.check_steps-requires-clause-keep
check_steps-requires-clause-keep c =
    let info = c.args.info.now in
    subst AllKeepNominal (sym (c.deref.ensures.value ∙ c.in_ok-insts.ensures.1)) (epilogue_keeps c.frame_layout.result.now info.callee_pop_size info.dest)

pub returns-in_err-sum : goal.returns-in_err-sum
returns-in_err-sum c =
    let e = c.args.state.now in
    let info = c.args.info.now in
    let D = declared_in c.args.sink.now in
    let lost = loses_target e.layout info.callee_pop_size info.dest in
    let is = c.deref.ensures.value ∙ c.in_ok-insts.ensures.1 ∙ ap (λ l. epilogue l info.callee_pop_size info.dest) c.frame_layout.ensures in
    let none = subst (λ l. tail_cause info.dest l.first_saved_gpr (loses_target l info.callee_pop_size info.dest) ≡ None) c.frame_layout.ensures c.in_ok-insts.ensures.0 in
    let own = subst (λ l. (rest : Tree) → tree_cause c.args.context.flags D c.args.t.labels e.nominal c.args.context.depth (leaves (wholes e l) rest) ≡ Some c.in_err-sum.field-0.0) is c.in_err-sum.ensures in
    steps_refused c.args.context.flags D c.args.t c.args.t c.args.context.depth e.nominal e.nominal (TailOpening info.dest e.layout.first_saved_gpr lost) (wholes e (epilogue e.layout info.callee_pop_size info.dest)) (TailJump (jump_target info.dest) ∷ []) c.from_residual-in_err-sum.result _ refl c.from_residual-in_err-sum.ensures.1 none
    (adds_none c.args.t c.requires) own

pub returns : goal.returns
returns c =
    let e = c.args.state.now in
    let info = c.args.info.now in
    let D = declared_in c.args.sink.now in
    let lost = loses_target e.layout info.callee_pop_size info.dest in
    let is = c.deref.ensures.value ∙ c.in_ok-insts.ensures.1 ∙ ap (λ l. epilogue l info.callee_pop_size info.dest) c.frame_layout.ensures in
    let none = subst (λ l. tail_cause info.dest l.first_saved_gpr (loses_target l info.callee_pop_size info.dest) ≡ None) c.frame_layout.ensures c.in_ok-insts.ensures.0 in
    let steps = subst (λ l. (rest : Tree) → Counts c.args.context.flags D c.args.t c.in_ok-sum.sum c.args.context.depth e.nominal e.nominal (leaves (wholes e l) rest) rest) is c.in_ok-sum.ensures.1 in
    let size = c.call_size.ensures.value ∙ ap call_size c.in_ok-insts.ensures.2 in
    let valid = jump_is_target info.dest (opening_valid info.dest e.layout.first_saved_gpr lost none) in
    let jump = jump_checks c.args.context.flags D c.in_ok-sum.sum c.add_bytes.result c.args.context.depth e.nominal c.call_size.result (jump_target info.dest) valid size c.add_bytes.ensures in
    body_checks c.args.context.flags D c.args.t c.args.t c.in_ok-sum.sum c.args.context.depth e.nominal e.nominal (TailOpening info.dest e.layout.first_saved_gpr lost) (wholes e (epilogue e.layout info.callee_pop_size info.dest)) (TailJump (jump_target info.dest) ∷ []) (Ok c.add_bytes.result) refl none
    (adds_none c.args.t c.requires) steps jump
