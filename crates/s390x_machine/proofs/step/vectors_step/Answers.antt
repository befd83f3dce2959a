use Rattle.std.proofs.Common.{Some, ap, ◌∙◌}
use Rattle.s390x_machine.specs.Sound.{CanPerform}
use Rattle.s390x_format.specs.declared.semantics.RowSemantics.TheVariants.{Elements}
use Rattle.s390x_machine.proofs.Performing.{can_perform}
use Rattle.s390x_machine.proofs.step.vectors_step.Goals as goal

pub elements_step-requires-clause-is : goal.elements_step-requires-clause-is
elements_step-requires-clause-is g c = c.requires.is ∙ ap Some c.in-Elements.is

pub elements_step-requires-clause-fit : goal.elements_step-requires-clause-fit
elements_step-requires-clause-fit g c = can_perform _ c.args.decoded.now (Elements c.in-Elements.row) c.requires.found.row (c.requires.is ∙ ap Some c.in-Elements.is)

pub plain_operation-requires : goal.plain_operation-requires
plain_operation-requires g c =
    let can : CanPerform (Elements c.in-Elements.row) c.args.decoded.now.fields = can_perform _ c.args.decoded.now _ c.requires.found.row (c.requires.is ∙ ap Some c.in-Elements.is) in
    can.registers
