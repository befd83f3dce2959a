use Rattle.std.proofs.Common.{ℕ, refl, subst}
use Rattle.s390x_machine.specs.Semantics.{action}
use Rattle.s390x_machine.specs.State.{state_of}
use Rattle.s390x_machine.specs.Step.{Executes}
use Rattle.s390x_machine.specs.declared.action_type.Action.TheVariants.{Branch}
use Rattle.s390x_format.specs.declared.semantics.RowSemantics.TheVariants.{BranchRelative}
use Rattle.std.specs.Prelude.{slice_index}
use Rattle.s390x_machine.proofs.Stepping.{executed}
use Rattle.s390x_machine.proofs.step.relative_step.Goals as goal

pub returns : goal.returns
returns c held byte found =
    let s = state_of c.args.machine.now held byte in
    let t = state_of c.branch-machine.new.machine held byte in
    let d = c.args.decoded.now in
    let x = subst (λ (a : ℕ). Executes (Branch (slice_index d.fields.masks 0) a) c.length-size.result s c.branch-machine.result t) c.relative_address-target.ensures (c.branch-machine.ensures held byte) in
    let y = subst (λ (n : ℕ). Executes (action BranchRelative d.fields s.core.registers s.address) n s c.branch-machine.result t) c.length-size.ensures x in
    executed s d BranchRelative c.branch-machine.result t found c.requires refl refl y
