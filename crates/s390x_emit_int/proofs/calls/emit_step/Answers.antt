use Rattle.s390x_emit_int.proofs.Sequence.{step_emits}
use Rattle.s390x_emit_int.proofs.calls.emit_step.Goals as goal

pub returns : goal.returns
returns c =
    step_emits c.args.context.flags c.args.sink.now c.start_step.new.self c.emit_leaf.new.sink c.args.context.after.0 c.args.context.depth c.args.state.now c.args.inst.now c.emit_leaf.result c.in_ok-start_step.ensures.answer.1 c.start_step.ensures.kept
    c.emit_leaf.ensures.answer c.emit_leaf.ensures.only_memory c.emit_leaf.ensures.range c.emit_leaf.ensures.kept
