use Rattle.std.proofs.Common.{drop}
use Rattle.s390x_buffer.specs.Extends.{Extends}
use Rattle.s390x_typed_steps.specs.Calls.{wholes}
use Rattle.s390x_emit_int.specs.Room.{HasRoom}
use Rattle.s390x_emit_int.specs.Sequence.{AllKeepNominal}
use Rattle.s390x_emit_int.proofs.Sequence.{Goes}
use Rattle.s390x_emit_int.proofs.calls.emit_steps.Given as goal

abbrev pub invariant-loop-inst : goal.invariant-loop-inst
invariant-loop-inst l = record {
  goes : Goes l.context.flags l.initial.sink l.sink l.context.after.0 l.context.depth l.state.nominal l.state.nominal (wholes l.state l.insts) (wholes l.state (drop l.inst-index l.insts));
  keep : AllKeepNominal (drop l.inst-index l.insts);
  room : HasRoom l.sink;
  kept : Extends l.initial.sink l.sink;
}
