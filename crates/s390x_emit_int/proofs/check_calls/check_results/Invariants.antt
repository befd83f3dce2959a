use Rattle.std.proofs.Common.{drop}
use Rattle.s390x_typed_steps.specs.Calls.{load_bodies}
use Rattle.s390x_typed_steps.specs.Causes.{declared_in}
use Rattle.s390x_emit_int.specs.CodeSize.{IsCounted}
use Rattle.s390x_emit_int.proofs.Sequence.{CountsOn}
use Rattle.s390x_emit_int.proofs.check_calls.check_results.Given as goal

abbrev pub invariant-loop-def : goal.invariant-loop-def
invariant-loop-def l = record {
  goes : CountsOn l.context.flags (declared_in l.sink) l.fn.t l.sum l.context.depth l.state.nominal l.state.nominal (load_bodies l.state l.defs) (load_bodies l.state (drop l.def-index l.defs));
  counted : IsCounted l.sum;
}
