use Rattle.std.proofs.Common.{◌+◌, sym, ap, ◌∙◌}
use Rattle.s390x_inst.specs.Emission.{Emission}
use Rattle.s390x_typed_steps.specs.Causes.{declared_in, fresh_labels, tree_cause}
use Rattle.s390x_typed_steps.specs.Stack.{state_after}
use Rattle.s390x_emit_int.specs.Members.{member_of}
use Rattle.s390x_refusal.proofs.Walking.{marked_after, no_stack_cause}
use Rattle.s390x_refusal.proofs.members.check_member.Goals as goal

-- a member without a cause lets the sizes go on
pub unreachable-requires : goal.unreachable-requires
unreachable-requires c =
    let e = c.mark_member.new.state in
    let none = no_stack_cause c.args.flags (declared_in c.args.sink.now) e c.args.scope.labels e.nominal c.args.scope.depth c.args.inst.now c.in-Ok.ensures.0 in
    let some = c.in_default.ensures.0 c.args.scope.depth in
    cc

pub returns-in-Ok-advance : goal.returns-in-Ok-advance
returns-in-Ok-advance c =
    let flags = c.args.flags in
    let i = c.args.inst.now in
    let n = c.args.scope.labels in
    let d = c.args.scope.depth in
    let D = declared_in c.args.sink.now in
    let at = c.mark_member.ensures in (
      ap (λ (e : Emission). tree_cause flags D n e.nominal d (member_of flags e i)) (sym at) ∙ c.in-Ok.ensures.0,
      c.in-Ok.ensures.1.labels ∙ ap (λ (e : Emission). n + fresh_labels (member_of flags e i)) at,
      c.in-Ok.ensures.1.counted.labels,
      c.in-Ok-advance.ensures ∙ ap (λ (e : Emission). state_after e i) at ∙ marked_after d c.args.state.now i,
    )
