use Rattle.std.proofs.Common.{◌≡◌, None, sym, ◌∙◌}
use Rattle.s390x_typed_steps.specs.Causes.{declared_in, instruction_cause}
use Rattle.s390x_typed_steps.specs.Resolved.{resolved_instruction}
use Rattle.s390x_emit_int.proofs.Checking.{no_cause}
use Rattle.s390x_emit_int.proofs.Resolving.{fresh_labels_resolved}
use Rattle.s390x_emit_int.proofs.check.check_leaf.Goals as goal

pub returns-in-None : goal.returns-in-None
returns-in-None c =
    let D = declared_in c.args.sink.now in
    let j = resolved_instruction c.args.state.now c.args.inst.now in
    let none : instruction_cause c.args.flags D c.args.state.now.nominal c.args.depth j ≡ None = sym c.in-None.ensures in
    no_cause c.args.flags D c.args.state.now.nominal c.args.depth c.args.t j c.fresh_labels.result c.size_of.result c.add.result none (c.fresh_labels.ensures.value ∙ sym (fresh_labels_resolved c.args.state.now c.args.inst.now)) (c.size_of.ensures.value c.args.flags D c.args.state.now.nominal c.args.depth none) c.add.ensures
