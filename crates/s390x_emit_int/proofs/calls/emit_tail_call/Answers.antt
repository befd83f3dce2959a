use Rattle.s390x_base.specs.declared.error.EmitError.TheVariants.{NoMemory}
use Rattle.s390x_buffer.proofs.Extending.{extends_same}
use Rattle.std.proofs.Common.{◌≡◌, ◌⊎◌, [], ◌∷◌, ◌++◌, Err, None, Some, true, ap, sym, subst, ◌∙◌}
use Rattle.s390x_inst.specs.Frames.{epilogue}
use Rattle.s390x_typed_steps.specs.Calls.{is_target, jump_target, loses_target, wholes}
use Rattle.s390x_typed_steps.specs.Causes.{tail_cause}
use Rattle.s390x_typed_steps.specs.Tree.{Tree, TailJump, leaves}
use Rattle.s390x_emit_int.specs.Sequence.{AllKeepNominal, Emits, Reaches}
use Rattle.s390x_emit_int.proofs.CallSites.{epilogue_keeps, jump_is_target}
use Rattle.s390x_emit_int.proofs.Sequence.{opening_failed, opening_valid, tail_emits, tail_steps_failed}
use Rattle.s390x_emit_int.proofs.calls.emit_tail_call.Goals as goal

pub emit_steps-requires-clause-keep : goal.emit_steps-requires-clause-keep
emit_steps-requires-clause-keep c =
    let info = c.args.info.now in
    subst AllKeepNominal (sym (c.deref.ensures.value ∙ c.in_ok-insts.ensures.1)) (epilogue_keeps c.frame_layout.result.now info.callee_pop_size info.dest)

pub emit_tail_jump-requires : goal.emit_tail_jump-requires
emit_tail_jump-requires c =
    let info = c.args.info.now in
    let layout = c.frame_layout.result.now in
    let valid = jump_is_target info.dest (opening_valid info.dest layout.first_saved_gpr (loses_target layout info.callee_pop_size info.dest) c.in_ok-insts.ensures.0) in
    subst (λ d. is_target d ≡ true) (sym c.in_ok-insts.ensures.2) valid

pub returns-in_err-insts : goal.returns-in_err-insts
returns-in_err-insts c =
    let e = c.args.state.now in
    let info = c.args.info.now in
    let given = subst (λ l. (c.in_err-insts.field-0.0 ≡ NoMemory) ⊎ (tail_cause info.dest l.first_saved_gpr (loses_target l info.callee_pop_size info.dest) ≡ Some c.in_err-insts.field-0.0)) c.frame_layout.ensures c.in_err-insts.ensures in
    opening_failed c.args.context.flags c.args.sink.now c.args.context.after.0 c.args.context.depth e.nominal info.dest e.layout.first_saved_gpr (loses_target e.layout info.callee_pop_size info.dest) (wholes e (epilogue e.layout info.callee_pop_size info.dest) ++ TailJump (jump_target info.dest) ∷ [])
    c.from_residual.result _ c.from_residual.ensures.1 given (extends_same _)

pub returns-in_err-emit_steps : goal.returns-in_err-emit_steps
returns-in_err-emit_steps c =
    let e = c.args.state.now in
    let info = c.args.info.now in
    let is = c.deref.ensures.value ∙ c.in_ok-insts.ensures.1 ∙ ap (λ l. epilogue l info.callee_pop_size info.dest) c.frame_layout.ensures in
    tail_steps_failed c.args.context.flags c.args.sink.now c.emit_steps.new.sink c.args.context.after.0 c.args.context.depth e.nominal info.dest e.layout.first_saved_gpr (loses_target e.layout info.callee_pop_size info.dest) (wholes e (epilogue e.layout info.callee_pop_size info.dest)) (TailJump (jump_target info.dest) ∷ [])
    c.from_residual-in_err-emit_steps.result _ c.from_residual-in_err-emit_steps.ensures.1 (subst (λ l. Emits c.args.context.flags c.args.sink.now c.emit_steps.new.sink c.args.context.after.0 c.args.context.depth e.nominal e.nominal (wholes e l) (Err c.in_err-emit_steps.field-0.0)) is c.in_err-emit_steps.ensures)

pub returns : goal.returns
returns c =
    let e = c.args.state.now in
    let info = c.args.info.now in
    let is = c.deref.ensures.value ∙ c.in_ok-insts.ensures.1 ∙ ap (λ l. epilogue l info.callee_pop_size info.dest) c.frame_layout.ensures in
    let none = subst (λ l. tail_cause info.dest l.first_saved_gpr (loses_target l info.callee_pop_size info.dest) ≡ None) c.frame_layout.ensures c.in_ok-insts.ensures.0 in
    let jump = subst (λ d. Emits c.args.context.flags c.emit_steps.new.sink c.emit_tail_jump.new.sink c.args.context.after.0 c.args.context.depth e.nominal e.nominal (TailJump d ∷ []) c.emit_tail_jump.result) c.in_ok-insts.ensures.2 (c.emit_tail_jump.ensures c.args.context.flags c.args.context.after.0 c.args.context.depth e.nominal) in
    let steps = subst (λ l. (rest : Tree) → Reaches c.args.context.flags c.args.sink.now c.emit_steps.new.sink c.args.context.after.0 c.args.context.depth e.nominal e.nominal (leaves (wholes e l) rest) rest) is c.in_ok-emit_steps.ensures.reaches in
    tail_emits c.args.context.flags c.args.sink.now c.emit_steps.new.sink c.emit_tail_jump.new.sink c.args.context.after.0 c.args.context.depth e.nominal info.dest e.layout.first_saved_gpr (loses_target e.layout info.callee_pop_size info.dest) (wholes e (epilogue e.layout info.callee_pop_size info.dest)) (TailJump (jump_target info.dest) ∷ [])
    c.emit_tail_jump.result none steps c.emit_steps.ensures.kept jump
