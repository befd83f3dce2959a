use Rattle.s390x_typed_steps.specs.Causes.{declared_in}
use Rattle.s390x_emit_int.proofs.Sequence.{result_checks}
use Rattle.s390x_emit_int.proofs.check_calls.check_result.Goals as goal

pub returns-in-Some : goal.returns-in-Some
returns-in-Some c =
    result_checks c.args.context.flags (declared_in c.args.sink.now) c.args.t c.args.context.depth c.args.state.now c.args.def.now.vreg c.args.def.now.location c.in-Stack.field-0 c.in-Stack.field-1 c.in-Some.load c.check_step.result c.in-Stack.is c.in-Some.ensures c.check_step.ensures
