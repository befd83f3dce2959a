-- A step of the machine as a program, from what it fetched, what that means, and how its action ends.
use Rattle.std.proofs.Common.{◌≡◌, Bool, true, false, Option, None, Some, refl, sym, ap, ◌∙◌, subst, true≢false}
use Rattle.s390x_format.specs.Formats.{length_of}
use Rattle.s390x_format.specs.declared.decoder.Decoded.{Decoded}
use Rattle.s390x_operations.specs.State.{State}
use Rattle.s390x_operations.specs.declared.stop.StopKind.TheVariants.{Access, Operation, Specification}
use Rattle.s390x_machine.specs.Fetch.{Fetched, Missing, Unknown, Found, Fetches, IsFound}
use Rattle.s390x_machine.specs.Machine.{Event, OddPairStep, RowStep, MachineStep, Executed, Interrupted}
use Rattle.s390x_machine.specs.Semantics.{action, is_odd_pair, semantics_of}
use Rattle.s390x_machine.specs.Sound.{is_free}
use Rattle.s390x_machine.specs.Step.{IsOpen, Overflows, ActionFits, Executes, Steps, stored_by}
use Rattle.s390x_machine.specs.declared.action_type.Action.{Action}
use Rattle.s390x_format.specs.declared.semantics.RowSemantics.{RowSemantics}
use Rattle.s390x_machine.specs.declared.step.StepEnd.{StepEnd}
use Rattle.s390x_machine.specs.declared.step.StepEnd.TheVariants.{Went, Stopped, NoRow}
use Rattle.s390x_machine.proofs.Fetching.{one_thing}

-- no row is open where none is found
pub not_found : (s : State) (f : Fetched) → Fetches s.core.memory s.address f → ((d : Decoded) → f ≡ Found d → ⊥) → IsOpen s → ⊥
not_found s f h none o = none o.found (one_thing s.core.memory s.address f (Found o.found) h o.at)

no_missing : (d : Decoded) → Missing ≡ Found d → ⊥
no_missing d e = cc

no_unknown : (d : Decoded) → Unknown ≡ Found d → ⊥
no_unknown d e = cc

-- the machine stops where no instruction is found
pub missing_stops : (s : State) → Fetches s.core.memory s.address Missing → Steps s (Stopped Access s.address) s
missing_stops s h = (not_found s Missing h no_missing, record { fetched = Missing; fetches = h; acts = (refl, refl) }, refl)

pub unknown_stops : (s : State) → Fetches s.core.memory s.address Unknown → Steps s (Stopped Operation s.address) s
unknown_stops s h = (not_found s Unknown h no_unknown, record { fetched = Unknown; fetches = h; acts = (refl, refl) }, refl)

-- what was found; else a given one
abbrev found_or : Decoded → Fetched → Decoded
found_or d (Found e) = e
found_or d _ = d

pub found_alike : (d e : Decoded) → Found d ≡ Found e → d ≡ e
found_alike d e same = ap (λ (f : Fetched). found_or d f) same

-- what a row means; else a given meaning
abbrev meaning_or : RowSemantics → Option RowSemantics → RowSemantics
meaning_or m None = m
meaning_or m (Some n) = n

-- the row that is found isn't open where it means something that isn't free
pub not_open : (s : State) (d : Decoded) (semantics : RowSemantics) → IsFound s.core.memory s.address d → semantics_of d.row.opcode ≡ Some semantics → is_free semantics d.fields s.core.registers ≡ false → IsOpen s → ⊥
not_open s d semantics h is free o =
    let same : d ≡ o.found = found_alike d o.found (one_thing s.core.memory s.address (Found d) (Found o.found) h o.at) in
    let one : semantics ≡ o.semantics = ap (meaning_or semantics) (sym is ∙ ap (λ (e : Decoded). semantics_of e.row.opcode) same ∙ o.means) in
    let says : is_free semantics d.fields s.core.registers ≡ true = ap (λ (m : RowSemantics). is_free m d.fields s.core.registers) one ∙ ap (λ (e : Decoded). is_free o.semantics e.fields s.core.registers) same ∙ o.says_nothing in
    true≢false (sym says ∙ free)

-- no quotient of the row that is found overflows where its action's fit
no_overflow : (s : State) (d : Decoded) (semantics : RowSemantics) → IsFound s.core.memory s.address d → semantics_of d.row.opcode ≡ Some semantics → ActionFits (action semantics d.fields s.core.registers s.address) → Overflows s → ⊥
no_overflow s d semantics h is fits o =
    let same : d ≡ o.found = found_alike d o.found (one_thing s.core.memory s.address (Found d) (Found o.found) h o.at) in
    let one : semantics ≡ o.semantics = ap (meaning_or semantics) (sym is ∙ ap (λ (e : Decoded). semantics_of e.row.opcode) same ∙ o.means) in
    let acts = ap (λ (m : RowSemantics). action m d.fields s.core.registers s.address) one ∙ ap (λ (e : Decoded). action o.semantics e.fields s.core.registers s.address) same ∙ o.performs in
    subst (λ (a : Action). ActionFits a) acts fits o.unfit

-- a machine step at the row that is found
row_acts : (s : State) (d : Decoded) (semantics : RowSemantics) (odd : Bool) (event : Event) (t : State) → IsFound s.core.memory s.address d → semantics_of d.row.opcode ≡ Some semantics → is_odd_pair semantics d.fields ≡ odd →
    OddPairStep odd (action semantics d.fields s.core.registers s.address) (length_of d.row.format) s event t → MachineStep s event t
row_acts s d semantics odd event t h is pair acts = record {
  fetched = Found d;
  fetches = h;
  acts = subst (λ (m : Option RowSemantics). RowStep m d.fields (length_of d.row.format) s event t) (sym is) (subst (λ (b : Bool). OddPairStep b (action semantics d.fields s.core.registers s.address) (length_of d.row.format) s event t) (sym pair) acts);
}

pub odd_pair_stops : (s : State) (d : Decoded) (semantics : RowSemantics) → IsFound s.core.memory s.address d → semantics_of d.row.opcode ≡ Some semantics → is_odd_pair semantics d.fields ≡ true → MachineStep s (Interrupted Specification) s
odd_pair_stops s d semantics h is pair = row_acts s d semantics true (Interrupted Specification) s h is pair (refl, refl)

-- how the action ends is how the step ends
pub executed : (s : State) (d : Decoded) (semantics : RowSemantics) (end : StepEnd) (t : State) → IsFound s.core.memory s.address d → semantics_of d.row.opcode ≡ Some semantics → is_free semantics d.fields s.core.registers ≡ false → is_odd_pair semantics d.fields ≡ false →
    Executes (action semantics d.fields s.core.registers s.address) (length_of d.row.format) s end t → Steps s end t
executed s d semantics Went t h is free pair x = (
  not_open s d semantics h is free,
  record {
    stored = stored_by (action semantics d.fields s.core.registers s.address) s.core.memory;
    goes = row_acts s d semantics false (Executed (stored_by (action semantics d.fields s.core.registers s.address) s.core.memory)) t h is pair x.0;
    fits = no_overflow s d semantics h is x.1;
  },
)
executed s d semantics (Stopped kind place) t h is free pair x = (not_open s d semantics h is free, row_acts s d semantics false (Interrupted kind) t h is pair x.0, x.1)
executed s d semantics NoRow t h is free pair x = absurd x
