use Rattle.std.proofs.Common.{ℕ, Some, ap, ◌∙◌, subst}
use Rattle.s390x_operations.specs.declared.operand.Source.{Source}
use Rattle.s390x_machine.specs.Semantics.{source}
use Rattle.s390x_machine.specs.Sound.{CanPerform}
use Rattle.s390x_machine.specs.State.{registers_of}
use Rattle.s390x_machine.specs.Step.{StandsAt}
use Rattle.s390x_format.specs.declared.semantics.RowSemantics.TheVariants.{Store}
use Rattle.s390x_machine.proofs.Performing.{can_perform}
use Rattle.s390x_machine.proofs.step.storing_step.Goals as goal

pub source-destination-requires-clause-general : goal.source-destination-requires-clause-general
source-destination-requires-clause-general g c =
    let can : CanPerform (Store c.in-Store.second) c.args.decoded.now.fields = can_perform _ c.args.decoded.now _ c.requires.found.row (c.requires.is ∙ ap Some c.in-Store.is) in
    can.registers

pub source-destination-requires-clause-room : goal.source-destination-requires-clause-room
source-destination-requires-clause-room g c =
    let can : CanPerform (Store c.in-Store.second) c.args.decoded.now.fields = can_perform _ c.args.decoded.now _ c.requires.found.row (c.requires.is ∙ ap Some c.in-Store.is) in
    can.room

pub store_step-requires-clause-is : goal.store_step-requires-clause-is
store_step-requires-clause-is g c = c.requires.is ∙ ap Some c.in-Store.is

pub store_step-requires-clause-fit : goal.store_step-requires-clause-fit
store_step-requires-clause-fit g c = can_perform _ c.args.decoded.now (Store c.in-Store.second) c.requires.found.row (c.requires.is ∙ ap Some c.in-Store.is)

pub store_step-requires-clause-there : goal.store_step-requires-clause-there
store_step-requires-clause-there g c =
    let s = source c.in-Store.second.operand_source c.args.decoded.now.fields (registers_of c.args.machine.now) c.args.machine.now.place in
    let at = subst (λ (x : Source). StandsAt x c.in-Some.address c.bytes.result) c.source-destination.ensures c.in-Some.ensures in
    subst (λ (n : ℕ). StandsAt s c.in-Some.address n) c.bytes.ensures.value at
