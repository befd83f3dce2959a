-- What a step of a machine stores, and that a stop changes nothing.
use Rattle.std.proofs.Common.{◌≡◌, ℕ, zero, suc, ◌/◌, Option, Some, None, Bool, true, false, cond, IsTrue, IsFalse, refl, sym, ap, ◌∙◌, subst, arith}
use Rattle.std.proofs.lemmas.Nat.{mod_below}
use Rattle.std.proofs.lemmas.Bool.{and_parts}
use Rattle.s390x_format.specs.Formats.{length_of}
use Rattle.s390x_format.specs.declared.fields.Fields.{Fields}
use Rattle.s390x_operations.specs.Access.{Access, Untouched, Reads, Stores, Locks, fault, is_misaligned, store_event, store_event_at}
use Rattle.s390x_operations.specs.Effects.{access}
use Rattle.s390x_operations.specs.State.{State, Memory, CodeImage, MayWrite, IsDisjoint, after_store, bytes_to, overlaps, reaches, wrapping_add64, writes_of, write_get}
use Rattle.s390x_operations.specs.declared.stop.StopKind.{StopKind}
use Rattle.s390x_machine.specs.declared.instruction_fetch.Fetched.{Fetched}
use Rattle.s390x_machine.specs.declared.instruction_fetch.Fetched.TheVariants.{Misplaced, Missing, Unknown, Found}
use Rattle.s390x_machine.specs.Machine.{Event, Executed, Interrupted, MachineStep, FetchedStep, RowStep, OddPairStep, ActionStep}
use Rattle.s390x_machine.specs.Semantics.{action, is_odd_pair, semantics_of}
use Rattle.s390x_format.specs.declared.semantics.RowSemantics.{RowSemantics}
use Rattle.s390x_machine.specs.declared.action_type.Action.{Action}
use Rattle.s390x_machine.specs.declared.action_type.Action.TheVariants.{Perform, Branch, BranchAndSave}
use Rattle.s390x_machine.proofs.Frame.{or_left, or_right}
use Rattle.s390x_schedule.specs.Schedule.{LeavesImage, stored_writes}

-- n accessible bytes outside the image may be written
may_bytes : (image : CodeImage) (has : ℕ → Bool) (a n v : ℕ) → IsTrue (reaches has a n) → IsFalse (overlaps image a n) → MayWrite image has (bytes_to a n v)
may_bytes image has a zero v r out = tt
may_bytes image has a (suc n) v r out =
    let p = and_parts (has (wrapping_add64 a n)) (reaches has a n) r in
    (p.0, or_left _ _ out, mod_below v 256 (omega arith), may_bytes image has a n (v / 256) p.1 (or_right _ _ out))

reached_without_fault : (misaligned reached : Bool) (kind other : StopKind) → cond misaligned (Some kind) (cond reached None (Some other)) ≡ None → IsTrue reached
reached_without_fault false true kind other e = refl
reached_without_fault false false kind other e = absurd (cc)
reached_without_fault true reached kind other e = absurd (cc)

may_store_at : (image : CodeImage) (has : ℕ → Bool) (a n : ℕ) (o : Option ℕ) → IsTrue (reaches has a n) → IsDisjoint image (store_event_at a n o) → MayWrite image has (writes_of (store_event_at a n o))
may_store_at image has a n None r out = tt
may_store_at image has a n (Some v) r out = may_bytes image has a n v r out

-- what an access without a fault stores outside the image may be written
may_store : (image : CodeImage) (x : Access) (m : Memory) → fault x m.has ≡ None → IsDisjoint image (store_event x m) → MayWrite image m.has (writes_of (store_event x m))
may_store image Untouched m none out = tt
may_store image (Reads aligned a n) m none out = tt
may_store image (Stores aligned a n v) m none out = may_store_at image m.has a n (Some v) (reached_without_fault (is_misaligned aligned a n) (reaches m.has a n) _ _ none) out
may_store image (Locks a n change) m none out = may_store_at image m.has a n _ (reached_without_fault (is_misaligned true a n) (reaches m.has a n) _ _ none) out

-- The memory after a step has what the step stores and nothing else new; what it stores outside an image may be written; a stop changes nothing
pub record StoresAs (s : State) (event : Event) (t : State) : Type 0 where
  pub memory : t.core.memory ≡ record { has = s.core.memory.has; get = write_get (stored_writes event) s.core.memory.get }
  pub may : (image : CodeImage) → LeavesImage image event → MayWrite image s.core.memory.has (stored_writes event)

abbrev pub StaysAt : State → Event → State → Type 0
StaysAt s (Executed x) t = Unit {0}
StaysAt s (Interrupted kind) t = t ≡ s

stopped : (kind : StopKind) (s : State) (event : Event) (t : State) → (event ≡ Interrupted kind) × (t ≡ s) → StoresAs s event t × StaysAt s event t
stopped kind s (Executed x) t h = let e = h.0 in absurd (cc)
stopped kind s (Interrupted k) t h = (record { memory = ap (λ (z : State). z.core.memory) h.1; may = λ image leaves. tt }, h.1)

action_stores : (a : Action) (size : ℕ) (s : State) (event : Event) (t : State) → ActionStep a size s event t → StoresAs s event t × StaysAt s event t
action_stores (Perform op) size s (Executed x) t h =
    let m = s.core.memory in (
      record {
        memory = h.0.memory ∙ ap (λ o. after_store o m) (sym h.2);
        may = λ image leaves. subst (λ o. MayWrite image m.has (writes_of o)) (sym h.2) (may_store image (access op.effect) m h.0.reached (subst (IsDisjoint image) h.2 leaves));
      },
      tt,
    )
action_stores (Perform op) size s (Interrupted kind) t h = (record { memory = ap (λ (z : State). z.core.memory) h.1; may = λ image leaves. tt }, h.1)
action_stores (Branch mask target) size s (Executed x) t h = (
  record {
    memory = ap (λ c. c.memory) h.0 ∙ ap (λ o. after_store o s.core.memory) (sym h.2);
    may = λ image leaves. subst (λ o. MayWrite image s.core.memory.has (writes_of o)) (sym h.2) tt;
  },
  tt,
)
action_stores (Branch mask target) size s (Interrupted kind) t h = absurd h
action_stores (BranchAndSave link target) size s (Executed x) t h = (
  record {
    memory = ap (λ (z : State). z.core.memory) h.0 ∙ ap (λ o. after_store o s.core.memory) (sym h.1);
    may = λ image leaves. subst (λ o. MayWrite image s.core.memory.has (writes_of o)) (sym h.1) tt;
  },
  tt,
)
action_stores (BranchAndSave link target) size s (Interrupted kind) t h = absurd h

odd_pair_stores : (odd : Bool) (a : Action) (size : ℕ) (s : State) (event : Event) (t : State) → OddPairStep odd a size s event t → StoresAs s event t × StaysAt s event t
odd_pair_stores true a size s event t h = stopped _ s event t h
odd_pair_stores false a size s event t h = action_stores a size s event t h

row_stores : (o : Option RowSemantics) (f : Fields) (size : ℕ) (s : State) (event : Event) (t : State) → RowStep o f size s event t → StoresAs s event t × StaysAt s event t
row_stores None f size s event t h = absurd h
row_stores (Some semantics) f size s event t h = odd_pair_stores (is_odd_pair semantics f) (action semantics f s.core.registers s.address) size s event t h

fetched_stores : (fetched : Fetched) (s : State) (event : Event) (t : State) → FetchedStep fetched s event t → StoresAs s event t × StaysAt s event t
fetched_stores Misplaced s event t h = stopped _ s event t h
fetched_stores Missing s event t h = stopped _ s event t h
fetched_stores Unknown s event t h = stopped _ s event t h
fetched_stores (Found d) s event t h = row_stores (semantics_of d.row.opcode) d.fields (length_of d.row.format) s event t h

pub step_stores : (s : State) (event : Event) (t : State) → MachineStep s event t → StoresAs s event t
step_stores s event t h = (fetched_stores h.fetched s event t h.acts).0

pub stop_changes_nothing : (s : State) (kind : StopKind) (t : State) → MachineStep s (Interrupted kind) t → t ≡ s
stop_changes_nothing s kind t h = (fetched_stores h.fetched s (Interrupted kind) t h.acts).1
