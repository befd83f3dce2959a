use Rattle.s390x_typed_steps.specs.Causes.{declared_in}
use Rattle.s390x_emit_int.proofs.Sequence.{step_checks}
use Rattle.s390x_emit_int.proofs.check_calls.check_step.Goals as goal

pub returns : goal.returns
returns c = step_checks c.args.context.flags (declared_in c.args.sink.now) c.args.t c.args.context.depth c.args.state.now c.args.inst.now c.check_leaf.result c.check_leaf.ensures
