use Rattle.std.proofs.Common.{drop}
use Rattle.s390x_buffer.specs.Extends.{Extends}
use Rattle.s390x_typed_steps.specs.Calls.{load_bodies}
use Rattle.s390x_emit_int.specs.Room.{HasRoom}
use Rattle.s390x_emit_int.proofs.Sequence.{Goes}
use Rattle.s390x_emit_int.proofs.calls.emit_results.Given as goal

abbrev pub invariant-loop-def : goal.invariant-loop-def
invariant-loop-def l = record {
  goes : Goes l.context.flags l.initial.sink l.sink l.context.after.0 l.context.depth l.state.nominal l.state.nominal (load_bodies l.state l.defs) (load_bodies l.state (drop l.def-index l.defs));
  room : HasRoom l.sink;
  kept : Extends l.initial.sink l.sink;
}
