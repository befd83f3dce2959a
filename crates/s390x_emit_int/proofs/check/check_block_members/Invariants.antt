use Rattle.std.proofs.Common.{◌≡◌, ◌+◌, drop, min}
use Rattle.s390x_typed_steps.specs.Sizes.{tree_size}
use Rattle.s390x_typed_steps.specs.Causes.{declared_in, fresh_labels, tree_cause, nominal_behind}
use Rattle.s390x_emit_int.specs.Members.{block_members_of}
use Rattle.s390x_emit_int.specs.CodeSize.{IsCounted, code_limit}
use Rattle.s390x_emit_int.proofs.check.check_block_members.Given as goal

abbrev pub invariant-loop-inst : goal.invariant-loop-inst
invariant-loop-inst l = record {
  cause : tree_cause l.fn.flags (declared_in l.sink) l.sum.labels l.state.nominal 0 (block_members_of l.fn.flags l.state (drop l.inst-index l.insts)) ≡ tree_cause l.fn.flags (declared_in l.sink) l.fn.t.labels l.initial.state.nominal 0 (block_members_of l.fn.flags l.initial.state l.insts);
  labels : l.sum.labels + fresh_labels (block_members_of l.fn.flags l.state (drop l.inst-index l.insts)) ≡ l.fn.t.labels + fresh_labels (block_members_of l.fn.flags l.initial.state l.insts);
  bytes : min code_limit (l.sum.bytes + tree_size (block_members_of l.fn.flags l.state (drop l.inst-index l.insts))) ≡ min code_limit (l.fn.t.bytes + tree_size (block_members_of l.fn.flags l.initial.state l.insts));
  nominal : nominal_behind l.state.nominal (block_members_of l.fn.flags l.state (drop l.inst-index l.insts)) ≡ nominal_behind l.initial.state.nominal (block_members_of l.fn.flags l.initial.state l.insts);
  counted : IsCounted l.sum;
}
