use Rattle.std.proofs.Common.{length}
use Rattle.s390x_typed_steps.specs.Causes.{declared_in}
use Rattle.s390x_emit_int.proofs.Resolving.{no_stack_cause}
use Rattle.s390x_emit_int.proofs.emit.emit_and_advance.Goals as goal

-- what passed has no cause by the stack sizes
pub returns-in_err-advance-clause-only_memory : goal.returns-in_err-advance-clause-only_memory
returns-in_err-advance-clause-only_memory c = λ p.
    let nominal = c.args.state.now.nominal in
    let s = c.args.sink.now in
    let none = no_stack_cause c.args.flags c.args.state.now (declared_in s) (length s.labels) nominal 0 c.args.inst.now p.passed in
    let some = c.in_err-advance.ensures.0 0 in
    absurd (cc)
