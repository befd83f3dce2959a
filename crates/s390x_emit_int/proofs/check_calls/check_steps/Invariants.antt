use Rattle.std.proofs.Common.{drop}
use Rattle.s390x_typed_steps.specs.Calls.{wholes}
use Rattle.s390x_typed_steps.specs.Causes.{declared_in}
use Rattle.s390x_emit_int.specs.Sequence.{AllKeepNominal}
use Rattle.s390x_emit_int.specs.CodeSize.{IsCounted}
use Rattle.s390x_emit_int.proofs.Sequence.{CountsOn}
use Rattle.s390x_emit_int.proofs.check_calls.check_steps.Given as goal

abbrev pub invariant-loop-inst : goal.invariant-loop-inst
invariant-loop-inst l = record {
  goes : CountsOn l.context.flags (declared_in l.sink) l.fn.t l.sum l.context.depth l.state.nominal l.state.nominal (wholes l.state l.insts) (wholes l.state (drop l.inst-index l.insts));
  keep : AllKeepNominal (drop l.inst-index l.insts);
  counted : IsCounted l.sum;
}
