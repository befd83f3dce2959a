use Rattle.s390x_emit_int.proofs.Sequence.{result_load}
use Rattle.s390x_emit_int.proofs.calls.emit_result.Goals as goal

pub returns-in-Some : goal.returns-in-Some
returns-in-Some c =
    result_load c.args.context.flags c.args.sink.now c.emit_step.new.sink c.args.context.after.0 c.args.context.depth c.args.state.now c.args.def.now.vreg c.args.def.now.location c.in-Stack.field-0 c.in-Stack.field-1 c.in-Some.load c.emit_step.result c.in-Stack.is c.in-Some.ensures c.emit_step.ensures
