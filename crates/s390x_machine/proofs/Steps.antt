-- In every state whose numbers lie in their ranges the machine has a step, and so it has after others' writes.
use Rattle.std.proofs.Common.{◌≡◌, ℕ, zero, suc, ◌%◌, ◌<◌, ◌≤◌, Bool, true, false, ◌==◌, if◌then◌else◌, List, [], ◌∷◌, Option, None, Some, is_some, refl, sym, subst, ◌∙◌, arith, true≢false}
use Rattle.s390x_format.specs.Formats.{length_of}
use Rattle.s390x_format.specs.declared.decoder.Decoded.{Decoded}
use Rattle.s390x_format.specs.declared.fields.Fields.{Fields}
use Rattle.s390x_operations.specs.State.{State, IsState, CodeImage, Write, MayWrite, core_after_writes, write_get, update, reaches}
use Rattle.s390x_operations.specs.declared.stop.StopKind.TheVariants as Stop
use Rattle.s390x_machine.specs.declared.instruction_fetch.Fetched.TheVariants.{Misplaced, Missing, Unknown, Found}
use Rattle.s390x_machine.specs.Fetch.{IsReached, IsFound, length_at, instruction_bytes}
use Rattle.s390x_machine.specs.Semantics.{action, is_odd_pair, semantics_of, register_field}
use Rattle.s390x_machine.specs.Sound.{CanPerform, register_bound, is_vector_field}
use Rattle.s390x_machine.specs.Machine.{Event, Interrupted, OddPairStep, RowStep}
use Rattle.s390x_format.specs.declared.semantics.RowSemantics.{RowSemantics}
use Rattle.s390x_machine.proofs.RowSemantics.{row_means}
use Rattle.s390x_machine.proofs.Performing.{can_perform}
use Rattle.s390x_machine.specs.Progress.{HasStep, HasTransition}
use Rattle.s390x_machine.proofs.ProgressDecoding.{Decides, Begins, BeginsNone, fetch_decided}
use Rattle.s390x_machine.proofs.Actions.{VectorsFit, row_has, action_goes}

-- ---- a row that was found goes or stops

-- a step of a row
record RowGoes (semantics : Option RowSemantics) (f : Fields) (size : ℕ) (s : State) : Type 0 where
  event : Event
  after : State
  acts : RowStep semantics f size s event after

pair_goes : (semantics : RowSemantics) (f : Fields) (size : ℕ) (s : State) → VectorsFit f s.core.registers → (b : Bool) → is_odd_pair semantics f ≡ b → RowGoes (Some semantics) f size s
pair_goes semantics f size s h true e =
    record {
      event = Interrupted Stop.Specification;
      after = s;
      acts = subst (λ (b : Bool). OddPairStep b (action semantics f s.core.registers s.address) size s (Interrupted Stop.Specification) s) (sym e) (refl, refl);
    }
pair_goes semantics f size s h false e =
    let goes = action_goes (action semantics f s.core.registers s.address) size s (row_has semantics f s.core.registers s.address h) in
    record {
      event = goes.event;
      after = goes.after;
      acts = subst (λ (b : Bool). OddPairStep b (action semantics f s.core.registers s.address) size s goes.event goes.after) (sym e) goes.acts;
    }

few_registers : (b : Bool) → register_bound b ≤ 32
few_registers true = omega arith
few_registers false = omega arith

vectors_fit : (s : State) (semantics : RowSemantics) (f : Fields) → IsState s → CanPerform semantics f → VectorsFit f s.core.registers
vectors_fit s semantics f h can i = h.vector (register_field f i) (omega (arith, can.registers i, few_registers (is_vector_field semantics i)))

row_goes : (s : State) (d : Decoded) → IsState s → IsFound s.core.memory s.address d → (semantics : Option RowSemantics) → semantics_of d.row.opcode ≡ semantics → is_some semantics ≡ true → RowGoes semantics d.fields (length_of d.row.format) s
row_goes s d h found None e there = absurd (true≢false (sym there))
row_goes s d h found (Some semantics) e there =
    let fit = vectors_fit s semantics d.fields h (can_perform _ d semantics found.row e) in
    pair_goes semantics d.fields (length_of d.row.format) s fit (is_odd_pair semantics d.fields) refl

-- ---- each thing that may stand at a place

found_steps : (s : State) → IsState s → (d : Decoded) → IsFound s.core.memory s.address d → HasStep s
found_steps s h d found =
    let goes = row_goes s d h found (semantics_of d.row.opcode) refl (row_means _ d found.row) in
    record { event = goes.event; after = goes.after; step = record { fetched = Found d; fetches = found; acts = goes.acts } }

reached_steps : (s : State) → IsState s → s.address % 2 ≡ 0 → IsReached s.core.memory s.address → Decides (instruction_bytes s.core.memory s.address) → HasStep s
reached_steps s h even reached (Begins d row) = found_steps s h d (record { even = even; reached = reached; row = row })
reached_steps s h even reached (BeginsNone none) =
    record { event = Interrupted Stop.Operation; after = s; step = record { fetched = Unknown; fetches = (even, reached, none); acts = (refl, refl) } }

even_steps : (s : State) → IsState s → s.address % 2 ≡ 0 → (first all : Bool) → s.core.memory.has s.address ≡ first → reaches s.core.memory.has s.address (length_at s.core.memory s.address) ≡ all → HasStep s
even_steps s h even true true first all = reached_steps s h even (first, all) (fetch_decided (instruction_bytes s.core.memory s.address))
even_steps s h even false all first e =
    record { event = Interrupted Stop.Access; after = s; step = record { fetched = Missing; fetches = (even, λ reached. true≢false (sym reached.0 ∙ first)); acts = (refl, refl) } }
even_steps s h even true false first e =
    record { event = Interrupted Stop.Access; after = s; step = record { fetched = Missing; fetches = (even, λ reached. true≢false (sym reached.1 ∙ e)); acts = (refl, refl) } }

pub state_steps : (s : State) → IsState s → HasStep s
state_steps s h = by_rest (s.address % 2) refl
  where
    by_rest : (k : ℕ) → s.address % 2 ≡ k → HasStep s
    by_rest zero e = even_steps s h e (s.core.memory.has s.address) (reaches s.core.memory.has s.address (length_at s.core.memory s.address)) refl refl
    by_rest (suc zero) e = record { event = Interrupted Stop.Specification; after = s; step = record { fetched = Misplaced; fetches = e; acts = (refl, refl) } }
    by_rest (suc (suc k)) e = absurd (omega arith)

-- ---- after others' writes

byte_below : (f : ℕ → ℕ) (address byte a : ℕ) → (b : Bool) → f a < 256 → byte < 256 → (if b then byte else f a) < 256
byte_below f address byte a true h k = k
byte_below f address byte a false h k = h

bytes_written : (image : CodeImage) (has : ℕ → Bool) (writes : List Write) (f : ℕ → ℕ) → MayWrite image has writes → ((a : ℕ) → f a < 256) → (a : ℕ) → write_get writes f a < 256
bytes_written image has [] f may h a = h a
bytes_written image has (w ∷ ws) f may h a = bytes_written image has ws (update f w.address w.byte) may.3 (λ k. byte_below f w.address w.byte k (k == w.address) (h k) may.2) a

pub written_in_range : (image : CodeImage) (s : State) (writes : List Write) → IsState s → MayWrite image s.core.memory.has writes → IsState (record { core = core_after_writes writes s.core; address = s.address })
written_in_range image s writes h may = record {
  general = h.general;
  vector = h.vector;
  access = h.access;
  bytes = bytes_written image s.core.memory.has writes s.core.memory.get may h.bytes;
  addresses = h.addresses;
  address = h.address;
}

pub written_steps : (image : CodeImage) (s : State) (writes : List Write) → IsState s → MayWrite image s.core.memory.has writes → HasTransition image s writes
written_steps image s writes h may =
    let goes = state_steps (record { core = core_after_writes writes s.core; address = s.address }) (written_in_range image s writes h may) in
    record { event = goes.event; after = goes.after; step = record { may = may; goes = goes.step } }
