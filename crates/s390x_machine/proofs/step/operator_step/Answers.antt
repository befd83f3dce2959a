use Rattle.std.proofs.Common.{Some, ap, ◌∙◌}
use Rattle.s390x_machine.specs.Sound.{CanPerform}
use Rattle.s390x_format.specs.declared.semantics.RowSemantics.TheVariants.{Compute}
use Rattle.s390x_machine.proofs.Performing.{can_perform}
use Rattle.s390x_machine.proofs.step.operator_step.Goals as goal

pub value_step-requires-clause-is : goal.value_step-requires-clause-is
value_step-requires-clause-is g c = c.requires.is ∙ ap Some c.in-Compute.is

pub value_step-requires-clause-fit : goal.value_step-requires-clause-fit
value_step-requires-clause-fit g c = can_perform _ c.args.decoded.now (Compute c.in-Compute.operator c.in-Compute.size c.in-Compute.second c.in-Compute.rule) c.requires.found.row (c.requires.is ∙ ap Some c.in-Compute.is)

pub operand_bits-requires-clause-general : goal.operand_bits-requires-clause-general
operand_bits-requires-clause-general g c =
    let can : CanPerform (Compute c.in-Compute.operator c.in-Compute.size c.in-Compute.second c.in-Compute.rule) c.args.decoded.now.fields = can_perform _ c.args.decoded.now _ c.requires.found.row (c.requires.is ∙ ap Some c.in-Compute.is) in
    can.registers

pub operand_bits-requires-clause-room : goal.operand_bits-requires-clause-room
operand_bits-requires-clause-room g c =
    let can : CanPerform (Compute c.in-Compute.operator c.in-Compute.size c.in-Compute.second c.in-Compute.rule) c.args.decoded.now.fields = can_perform _ c.args.decoded.now _ c.requires.found.row (c.requires.is ∙ ap Some c.in-Compute.is) in
    can.room
