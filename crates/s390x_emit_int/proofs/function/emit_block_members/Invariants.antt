use Rattle.std.proofs.Common.{◌≡◌, drop, length}
use Rattle.s390x_buffer.specs.Extends.{Extends}
use Rattle.s390x_typed_steps.specs.Causes.{declared_in, tree_cause, nominal_behind}
use Rattle.s390x_emit_int.specs.Members.{block_members_of}
use Rattle.s390x_emit_int.specs.Fragments.{apply_all}
use Rattle.s390x_emit_int.specs.Emission.{fragments}
use Rattle.s390x_typed_steps.specs.Ranges.{AllInRange}
use Rattle.s390x_emit_int.specs.Room.{HasRoom, TreeFits}
use Rattle.s390x_emit_int.proofs.function.emit_block_members.Given as goal

abbrev pub invariant-loop-inst : goal.invariant-loop-inst
invariant-loop-inst l = record {
  kept : Extends l.initial.sink l.sink;
  room : HasRoom l.sink;
  rest : apply_all l.sink (fragments (length l.sink.labels) 0 (block_members_of l.fn.flags l.state (drop l.inst-index l.insts))) ≡ apply_all l.initial.sink (fragments (length l.initial.sink.labels) 0 (block_members_of l.fn.flags l.initial.state l.insts));
  cause : tree_cause l.fn.flags (declared_in l.sink) (length l.sink.labels) l.state.nominal 0 (block_members_of l.fn.flags l.state (drop l.inst-index l.insts)) ≡ tree_cause l.fn.flags (declared_in l.initial.sink) (length l.initial.sink.labels) l.initial.state.nominal 0 (block_members_of l.fn.flags l.initial.state l.insts);
  nominal : nominal_behind l.state.nominal (block_members_of l.fn.flags l.state (drop l.inst-index l.insts)) ≡ nominal_behind l.initial.state.nominal (block_members_of l.fn.flags l.initial.state l.insts);
  passed : TreeFits l.fn.flags l.initial.sink 0 l.initial.state.nominal 0 (block_members_of l.fn.flags l.initial.state l.insts) → TreeFits l.fn.flags l.sink 0 l.state.nominal 0 (block_members_of l.fn.flags l.state (drop l.inst-index l.insts));
  ranges : AllInRange (block_members_of l.fn.flags l.state (drop l.inst-index l.insts)) → AllInRange (block_members_of l.fn.flags l.initial.state l.insts);
}
