use Rattle.std.proofs.Common.{Some, ap, ◌∙◌}
use Rattle.s390x_machine.specs.Sound.{CanPerform}
use Rattle.s390x_format.specs.declared.semantics.RowSemantics.TheVariants.{Compare}
use Rattle.s390x_machine.proofs.Performing.{can_perform}
use Rattle.s390x_machine.proofs.step.comparison_step.Goals as goal

pub compare_step-requires-clause-is : goal.compare_step-requires-clause-is
compare_step-requires-clause-is g c = c.requires.is ∙ ap Some c.in-Compare.is

pub compare_step-requires-clause-fit : goal.compare_step-requires-clause-fit
compare_step-requires-clause-fit g c = can_perform _ c.args.decoded.now (Compare c.in-Compare.sign c.in-Compare.size c.in-Compare.second) c.requires.found.row (c.requires.is ∙ ap Some c.in-Compare.is)

pub operand_bits-requires-clause-general : goal.operand_bits-requires-clause-general
operand_bits-requires-clause-general g c =
    let can : CanPerform (Compare c.in-Compare.sign c.in-Compare.size c.in-Compare.second) c.args.decoded.now.fields = can_perform _ c.args.decoded.now _ c.requires.found.row (c.requires.is ∙ ap Some c.in-Compare.is) in
    can.registers

pub operand_bits-requires-clause-room : goal.operand_bits-requires-clause-room
operand_bits-requires-clause-room g c =
    let can : CanPerform (Compare c.in-Compare.sign c.in-Compare.size c.in-Compare.second) c.args.decoded.now.fields = can_perform _ c.args.decoded.now _ c.requires.found.row (c.requires.is ∙ ap Some c.in-Compare.is) in
    can.room
