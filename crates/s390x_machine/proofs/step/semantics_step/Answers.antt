use Rattle.std.proofs.Common.{ℕ, refl, rules, sym, ◌∙◌, subst}
use Rattle.s390x_machine.specs.Semantics.{action}
use Rattle.s390x_machine.specs.State.{state_of}
use Rattle.s390x_machine.specs.Step.{Executes}
use Rattle.s390x_machine.specs.declared.action_type.Action.{Action}
use Rattle.s390x_machine.proofs.Performing.{can_perform}
use Rattle.s390x_machine.proofs.Stepping.{not_open, odd_pair_stops, executed}
use Rattle.s390x_machine.proofs.step.semantics_step.Goals as goal

pub returns-then-is_odd_pair : goal.returns-then-is_odd_pair
returns-then-is_odd_pair g c =
    let s = state_of c.args.machine.now (g.M.Memory.held c.args.memory.now) (g.M.Memory.byte c.args.memory.now) in
    let free = sym c.is_free.ensures ∙ c.if-is_free.false in
    let odd = sym c.is_odd_pair.ensures ∙ c.if-is_odd_pair.true in
    (not_open s c.args.decoded c.args.semantics.now c.requires.found c.requires.is free, odd_pair_stops s c.args.decoded c.args.semantics.now c.requires.found c.requires.is odd, refl)

pub returns : goal.returns
returns g c =
    let s = state_of c.args.machine.now (g.M.Memory.held c.args.memory.now) (g.M.Memory.byte c.args.memory.now) in
    let t = state_of c.execute.new.machine (g.M.Memory.held c.execute.new.memory) (g.M.Memory.byte c.execute.new.memory) in
    let d = c.args.decoded in
    let free = sym c.is_free.ensures ∙ c.if-is_free.false in
    let odd = sym c.is_odd_pair.ensures ∙ c.if-is_odd_pair.false in
    let x = subst (λ (a : Action). Executes a c.length.result s c.execute.result t) c.action-action.ensures.value c.execute.ensures in
    let y = subst (λ (n : ℕ). Executes (action c.args.semantics.now d.fields s.core.registers s.address) n s c.execute.result t) c.length.ensures x in
    executed s d c.args.semantics.now c.execute.result t c.requires.found c.requires.is free odd y

pub is_free-requires : goal.is_free-requires
is_free-requires g c = (can_perform _ c.args.decoded c.args.semantics.now c.requires.found.row c.requires.is).registers

pub action-action-requires-clause-fit : goal.action-action-requires-clause-fit
action-action-requires-clause-fit g c = record { can = can_perform _ c.args.decoded c.args.semantics.now c.requires.found.row c.requires.is; paired = search rules }
