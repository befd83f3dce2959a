use Rattle.std.proofs.Common.{◌≡◌, drop, length}
use Rattle.s390x_buffer.specs.Extends.{Extends}
use Rattle.s390x_emit_int.specs.Members.{members_of}
use Rattle.s390x_typed_steps.specs.Causes.{declared_in, tree_cause, nominal_behind}
use Rattle.s390x_emit_int.specs.Fragments.{apply_all}
use Rattle.s390x_emit_int.specs.Emission.{fragments}
use Rattle.s390x_typed_steps.specs.Ranges.{AllInRange}
use Rattle.s390x_emit_int.specs.Room.{HasRoom, TreeFits}
use Rattle.s390x_emit_int.proofs.tree.+members.Given as goal

abbrev pub invariant-emit_members-loop-inst : goal.invariant-emit_members-loop-inst
invariant-emit_members-loop-inst l = record {
  kept : Extends l.initial.sink l.sink;
  room : HasRoom l.sink;
  rest : apply_all l.sink (fragments (length l.sink.labels) l.context.after.0 (members_of l.context.flags l.state (drop l.inst-index l.insts))) ≡ apply_all l.initial.sink (fragments (length l.initial.sink.labels) l.context.after.0 (members_of l.context.flags l.initial.state l.insts));
  cause : tree_cause l.context.flags (declared_in l.sink) (length l.sink.labels) l.state.nominal l.context.depth (members_of l.context.flags l.state (drop l.inst-index l.insts)) ≡ tree_cause l.context.flags (declared_in l.initial.sink) (length l.initial.sink.labels) l.initial.state.nominal l.context.depth (members_of l.context.flags l.initial.state l.insts);
  nominal : nominal_behind l.state.nominal (members_of l.context.flags l.state (drop l.inst-index l.insts)) ≡ nominal_behind l.initial.state.nominal (members_of l.context.flags l.initial.state l.insts);
  passed : TreeFits l.context.flags l.initial.sink l.context.after.0 l.initial.state.nominal l.context.depth (members_of l.context.flags l.initial.state l.insts) → TreeFits l.context.flags l.sink l.context.after.0 l.state.nominal l.context.depth (members_of l.context.flags l.state (drop l.inst-index l.insts));
  ranges : AllInRange (members_of l.context.flags l.state (drop l.inst-index l.insts)) → AllInRange (members_of l.context.flags l.initial.state l.insts);
}
