-- A step of the machine leaves all numbers in their ranges, and so does a run: so it goes on.
use Rattle.std.proofs.Common.{◌≡◌, ℕ, zero, suc, ◌+◌, ◌^◌, ◌%◌, ◌<◌, ◌≤◌, Bool, true, false, cond, nat_lt, ◌==◌, List, [], ◌∷◌, Option, None, Some, IsTrue, refl, sym, ap, ap₂, subst, arith, eq-eqb, true≢false, ◌∙◌}
use Rattle.std.proofs.Math.Pow.{pow_pos}
use Rattle.std.proofs.lemmas.Nat.{mod_below}
use Rattle.s390x_format.specs.Formats.{length_of}
use Rattle.s390x_format.specs.declared.fields.Fields.{Fields}
use Rattle.s390x_lanes.specs.Size.{lane_count}
use Rattle.s390x_lanes.specs.Rows.{operation_of}
use Rattle.s390x_lanes.specs.declared.operators.VectorOperation.{VectorOperation}
use Rattle.s390x_operations.specs.Numbers.{modulus}
use Rattle.s390x_operations.specs.State.{State, Core, Memory, IsState, Registers, CodeImage, Write, MayWrite, core_after_writes, wrapping_add64}
use Rattle.s390x_operations.specs.Access.{store_event}
use Rattle.s390x_operations.specs.Effects.{access, is_selected, MayExecute}
use Rattle.s390x_operations.specs.declared.size.Size.{Size}
use Rattle.s390x_operations.specs.declared.size.Size.TheVariants.{Halfword, Word, Doubleword}
use Rattle.s390x_operations.specs.declared.effect.Operation.{Operation}
use Rattle.s390x_machine.specs.declared.instruction_fetch.Fetched.{Fetched}
use Rattle.s390x_machine.specs.declared.instruction_fetch.Fetched.TheVariants.{Misplaced, Missing, Unknown, Found}
use Rattle.s390x_machine.specs.Fetch.{Fetches}
use Rattle.s390x_machine.specs.Operands.{value_in, address_by_base, performed_where}
use Rattle.s390x_machine.specs.Semantics.{register_field, mask_field, vector_field, element_size, relative_address, first_register, is_odd_pair, action, on_elements, semantics_of}
use Rattle.s390x_machine.specs.Sound.{HasRegisters, IsMeant}
use Rattle.s390x_machine.specs.Machine.{Event, Executed, Interrupted, ActionStep, OddPairStep, RowStep, FetchedStep, MachineStep, Transition, Run, after_all, TransitionStep}
use Rattle.s390x_format.specs.declared.semantics.OperandSource.{OperandSource}
use Rattle.s390x_format.specs.declared.semantics.OperandSource.TheVariants.{ThreeRegisters, ThreeImmediate, Amount}
use Rattle.s390x_format.specs.declared.semantics.RowSemantics.{RowSemantics}
use Rattle.s390x_format.specs.declared.semantics.RowSemantics.TheVariants.{Compute, MoveWhere, CountOnes, RotateThen, MultiplySigned, MultiplyLogical, DivideLogical, FindLeftmostOne}
use Rattle.s390x_format.specs.declared.semantics.RowSemantics.TheVariants.{BranchToRegister, BranchRelative, BranchAndSaveToRegister, BranchAndSaveRelative}
use Rattle.s390x_format.specs.declared.semantics.RowSemantics.TheVariants.{Elements, ShiftElements, LeftToRegister, InsertElement, ExtractElement}
use Rattle.s390x_machine.specs.declared.action_type.Action.{Action}
use Rattle.s390x_machine.specs.declared.action_type.Action.TheVariants.{Perform, Branch, BranchAndSave}
use Rattle.s390x_machine.proofs.Performing.{can_perform}
use Rattle.s390x_machine.specs.Progress.{HasTransition, MayWriteEach, HasRun}
use Rattle.s390x_machine.proofs.Lanes.{choice_lt}
use Rattle.s390x_machine.proofs.Values.{low_lt}
use Rattle.s390x_machine.proofs.Ranges.{RegistersFit, ValuesFit, general_fits, results_fit, stored_fits}
use Rattle.s390x_machine.proofs.Steps.{written_steps, written_in_range}

-- an operation's values lie in their ranges, and so does a branch's target
abbrev pub ActionFits : Action → Type 0
ActionFits (Perform op) = ValuesFit op.effect
ActionFits (Branch mask target) = target < 2 ^ 64
ActionFits (BranchAndSave link target) = target < 2 ^ 64

-- ---- what each row does

value_in_lt : (size : Size) (r : Registers) (i : ℕ) → RegistersFit r → i < 16 → value_in size r i < modulus size
value_in_lt Halfword r i fit lt = mod_below (r.general i) (2 ^ 16) (pow_pos 16)
value_in_lt Word r i fit lt = mod_below (r.general i) (2 ^ 32) (pow_pos 32)
value_in_lt Doubleword r i fit lt = fit.general i lt

first_lt : (source : OperandSource) (f : Fields) → register_field f 0 < 16 → register_field f 1 < 16 → first_register source f < 16
first_lt ThreeRegisters f h k = k
first_lt ThreeImmediate f h k = k
first_lt Amount f h k = k
first_lt source f h k = h

relative_lt : (f : Fields) (address : ℕ) → relative_address f address < 2 ^ 64
relative_lt f address = low_lt Doubleword _

wrapping_lt : (a b : ℕ) → wrapping_add64 a b < 2 ^ 64
wrapping_lt a b = mod_below (a + b) (2 ^ 64) (pow_pos 64)

either_fits : (b : Bool) (x y : Action) → ActionFits x → ActionFits y → ActionFits (cond b x y)
either_fits true x y h k = h
either_fits false x y h k = k

where_fits : (b : Bool) (op : Operation) → ValuesFit op.effect → ActionFits (Perform (performed_where b op))
where_fits true op h = h
where_fits false op h = tt

elements_fit : (operation : Option VectorOperation) (target a b c d : ℕ) → ActionFits (on_elements operation target a b c d)
elements_fit None target a b c d = tt
elements_fit (Some operation) target a b c d = tt

-- the register after an even one
next_lt : (n : ℕ) → n < 16 → (n % 2 == 1) ≡ false → n + 1 < 16
next_lt n lt e = by_rest (n % 2) refl
  where
    by_rest : (k : ℕ) → n % 2 ≡ k → n + 1 < 16
    by_rest zero h = omega arith
    by_rest (suc zero) h = absurd (true≢false (sym (eq-eqb (n % 2) 1 h) ∙ e))
    by_rest (suc (suc k)) h = absurd (omega arith)

full_width : 2 ^ 64 ≤ modulus Doubleword
full_width = omega arith

row_fits : (semantics : RowSemantics) (f : Fields) (r : Registers) (address : ℕ) → HasRegisters semantics f → IsMeant semantics → is_odd_pair semantics f ≡ false → RegistersFit r → ActionFits (action semantics f r address)
row_fits (Compute operator size s rule) f r address regs meant even fit = (value_in_lt size r (first_register s.operand_source f) fit (first_lt s.operand_source f (regs 0) (regs 1)), meant)
row_fits (MoveWhere size s) f r address regs meant even fit = where_fits (is_selected (mask_field f 0) r.code) _ (value_in_lt size r (register_field f 0) fit (regs 0), meant)
row_fits CountOnes f r address regs meant even fit = (fit.general (register_field f 0) (regs 0), full_width)
row_fits (RotateThen op rule) f r address regs meant even fit = either_fits (nat_lt (mask_field f 0) 64) _ _ (fit.general (register_field f 0) (regs 0), full_width) tt
row_fits MultiplySigned f r address regs meant even fit = (fit.general (register_field f 1) (regs 1), fit.general (register_field f 2) (regs 2))
row_fits MultiplyLogical f r address regs meant even fit = (fit.general (register_field f 0 + 1) (next_lt (register_field f 0) (regs 0) even), fit.general (register_field f 1) (regs 1))
row_fits (DivideLogical size) f r address regs meant even fit = value_in_lt size r (register_field f 1) fit (regs 1)
row_fits FindLeftmostOne f r address regs meant even fit = fit.general (register_field f 1) (regs 1)
row_fits BranchToRegister f r address regs meant even fit = either_fits (register_field f 1 == 0) _ _ tt (fit.general (register_field f 1) (regs 1))
row_fits BranchRelative f r address regs meant even fit = relative_lt f address
row_fits BranchAndSaveToRegister f r address regs meant even fit =
    choice_lt (register_field f 1 == 0) (wrapping_add64 address 2) (r.general (register_field f 1)) (2 ^ 64) (wrapping_lt address 2) (fit.general (register_field f 1) (regs 1))
row_fits BranchAndSaveRelative f r address regs meant even fit = relative_lt f address
row_fits LeftToRegister f r address regs meant even fit = (fit.general (register_field f 0) (regs 0), full_width)
row_fits ExtractElement f r address regs meant even fit =
    either_fits (nat_lt (address_by_base r (register_field f 1) f.disp) (lane_count (element_size f))) _ _ (fit.general (register_field f 0) (regs 0), full_width) tt
row_fits InsertElement f r address regs meant even fit = either_fits (nat_lt (address_by_base r (register_field f 1) f.disp) (lane_count (element_size f))) _ _ tt tt
row_fits (Elements row) f r address regs meant even fit =
    elements_fit (operation_of row f.masks f.imm) (register_field f 0) (vector_field f r 0) (vector_field f r 1) (vector_field f r 2) (vector_field f r 3)
row_fits (ShiftElements row) f r address regs meant even fit = elements_fit (operation_of row f.masks _) (register_field f 0) (vector_field f r 0) (vector_field f r 2) 0 0
row_fits semantics f r address regs meant even fit = tt

-- ---- one step

registers_fit : (s : State) → IsState s → RegistersFit s.core.registers
registers_fit s h = record { general = h.general; vector = h.vector; access = h.access }

memory_kept : (s : State) (r : Registers) (address : ℕ) → IsState s → RegistersFit r → address < 2 ^ 64 → IsState (record { core = record { registers = r; memory = s.core.memory }; address = address })
memory_kept s r address h fit lt = record { general = fit.general; vector = fit.vector; access = fit.access; bytes = h.bytes; addresses = h.addresses; address = lt }

executed : (op : Operation) (s t : State) → IsState s → ValuesFit op.effect → MayExecute op s.core t.core → t.address < 2 ^ 64 → IsState t
executed op s t h values may lt =
    let fit = results_fit op.effect s.core t.core.registers values (registers_fit s h) h.bytes may.results in
    record {
      general = fit.general;
      vector = fit.vector;
      access = fit.access;
      bytes = subst (λ (m : Memory). (a : ℕ) → m.get a < 256) (sym may.memory) (stored_fits (store_event (access op.effect) s.core.memory) s.core.memory h.bytes);
      addresses = λ a has. h.addresses a (subst (λ (m : Memory). IsTrue (m.has a)) may.memory has);
      address = lt;
    }

action_keeps : (a : Action) (size : ℕ) (s : State) (event : Event) (t : State) → IsState s → ActionFits a → ActionStep a size s event t → IsState t
action_keeps (Perform op) size s (Executed x) t h fit acts = executed op s t h fit acts.0 (subst (λ (n : ℕ). n < 2 ^ 64) (sym acts.1) (wrapping_lt s.address size))
action_keeps (Perform op) size s (Interrupted kind) t h fit acts = subst IsState (sym acts.1) h
action_keeps (Branch mask target) size s (Executed x) t h fit acts =
    let lt : t.address < 2 ^ 64 =
    subst (λ (n : ℕ). n < 2 ^ 64) (sym acts.1) (choice_lt (is_selected mask s.core.registers.code) target (wrapping_add64 s.address size) (2 ^ 64) fit (wrapping_lt s.address size)) in
    subst (λ (c : Core). IsState (record { core = c; address = t.address })) (sym acts.0) (memory_kept s s.core.registers t.address h (registers_fit s h) lt)
action_keeps (Branch mask target) size s (Interrupted kind) t h fit acts = absurd acts
action_keeps (BranchAndSave link target) size s (Executed x) t h fit acts =
    let saved = wrapping_add64 s.address size in
    subst IsState (sym acts.0) (memory_kept s _ target h (general_fits s.core.registers link saved (registers_fit s h) (λ there. wrapping_lt s.address size)) fit)
action_keeps (BranchAndSave link target) size s (Interrupted kind) t h fit acts = absurd acts

pair_keeps : (semantics : RowSemantics) (f : Fields) (size : ℕ) (s : State) (event : Event) (t : State) → IsState s → HasRegisters semantics f → IsMeant semantics → (b : Bool) → is_odd_pair semantics f ≡ b →
    OddPairStep b (action semantics f s.core.registers s.address) size s event t → IsState t
pair_keeps semantics f size s event t h regs meant true e acts = subst IsState (sym acts.1) h
pair_keeps semantics f size s event t h regs meant false e acts =
    action_keeps (action semantics f s.core.registers s.address) size s event t h (row_fits semantics f s.core.registers s.address regs meant e (registers_fit s h)) acts

fetched_keeps : (fetched : Fetched) (s : State) (event : Event) (t : State) → IsState s → Fetches s.core.memory s.address fetched → FetchedStep fetched s event t → IsState t
fetched_keeps Misplaced s event t h fetches acts = subst IsState (sym acts.1) h
fetched_keeps Missing s event t h fetches acts = subst IsState (sym acts.1) h
fetched_keeps Unknown s event t h fetches acts = subst IsState (sym acts.1) h
fetched_keeps (Found d) s event t h fetches acts = by_row (semantics_of d.row.opcode) refl acts
  where
    by_row : (semantics : Option RowSemantics) → semantics_of d.row.opcode ≡ semantics → RowStep semantics d.fields (length_of d.row.format) s event t → IsState t
    by_row None e acts = absurd acts
    by_row (Some semantics) e acts =
        let can = can_perform _ d semantics fetches.row e in
        pair_keeps semantics d.fields (length_of d.row.format) s event t h can.registers can.meant (is_odd_pair semantics d.fields) refl acts

pub step_keeps : (s : State) (event : Event) (t : State) → IsState s → MachineStep s event t → IsState t
step_keeps s event t h step = fetched_keeps step.fetched s event t h step.fetches step.acts

-- ---- runs

pub run_keeps : (image : CodeImage) (s : State) (trace : List Transition) → IsState s → Run image s trace → IsState (after_all s trace)
run_keeps image s [] h run = h
run_keeps image s (transition ∷ trace) h run =
    let behind = written_in_range image s transition.writes h run.0.may in
    run_keeps image transition.after trace (step_keeps (record { core = core_after_writes transition.writes s.core; address = s.address }) transition.event transition.after behind run.0.goes) run.1

pub run_goes_on : (image : CodeImage) (s : State) (trace : List Transition) (writes : List Write) → IsState s → Run image s trace → MayWrite image (after_all s trace).core.memory.has writes → HasTransition image (after_all s trace) writes
run_goes_on image s trace writes h run may = written_steps image (after_all s trace) writes (run_keeps image s trace h run) may

-- ---- what is accessible stays

action_reaches : (a : Action) (size : ℕ) (s : State) (event : Event) (t : State) → ActionStep a size s event t → t.core.memory.has ≡ s.core.memory.has
action_reaches (Perform op) size s (Executed x) t acts = ap (λ (m : Memory). m.has) acts.0.memory
action_reaches (Perform op) size s (Interrupted kind) t acts = ap (λ (u : State). u.core.memory.has) acts.1
action_reaches (Branch mask target) size s (Executed x) t acts = ap (λ (c : Core). c.memory.has) acts.0
action_reaches (Branch mask target) size s (Interrupted kind) t acts = absurd acts
action_reaches (BranchAndSave link target) size s (Executed x) t acts = ap (λ (u : State). u.core.memory.has) acts.0
action_reaches (BranchAndSave link target) size s (Interrupted kind) t acts = absurd acts

pair_reaches : (b : Bool) (a : Action) (size : ℕ) (s : State) (event : Event) (t : State) → OddPairStep b a size s event t → t.core.memory.has ≡ s.core.memory.has
pair_reaches true a size s event t acts = ap (λ (u : State). u.core.memory.has) acts.1
pair_reaches false a size s event t acts = action_reaches a size s event t acts

row_reaches : (semantics : Option RowSemantics) (f : Fields) (size : ℕ) (s : State) (event : Event) (t : State) → RowStep semantics f size s event t → t.core.memory.has ≡ s.core.memory.has
row_reaches None f size s event t acts = absurd acts
row_reaches (Some semantics) f size s event t acts = pair_reaches (is_odd_pair semantics f) (action semantics f s.core.registers s.address) size s event t acts

fetched_reaches : (fetched : Fetched) (s : State) (event : Event) (t : State) → FetchedStep fetched s event t → t.core.memory.has ≡ s.core.memory.has
fetched_reaches (Found d) s event t acts = row_reaches (semantics_of d.row.opcode) d.fields (length_of d.row.format) s event t acts
fetched_reaches fetched s event t acts = ap (λ (u : State). u.core.memory.has) acts.1

-- ---- a run under each list of writes

-- one transition, and what holds behind it
record Onward (image : CodeImage) (s : State) (writes : List Write) : Type 0 where
  transition : Transition
  step : TransitionStep image s transition
  same : transition.writes ≡ writes
  behind : IsState transition.after
  reaches : transition.after.core.memory.has ≡ s.core.memory.has

onward : (image : CodeImage) (s : State) (writes : List Write) → IsState s → MayWrite image s.core.memory.has writes → Onward image s writes
onward image s writes h may =
    let goes = written_steps image s writes h may in
    let start : State = record { core = core_after_writes writes s.core; address = s.address } in
    record {
      transition = record { writes = writes; event = goes.event; after = goes.after };
      step = goes.step;
      same = refl;
      behind = step_keeps start goes.event goes.after (written_in_range image s writes h may) goes.step.goes;
      reaches = fetched_reaches goes.step.goes.fetched start goes.event goes.after goes.step.goes.acts;
    }

pub writes_have_run : (image : CodeImage) (s : State) (others : List (List Write)) → IsState s → MayWriteEach image s.core.memory.has others → HasRun image s others
writes_have_run image s [] h may = record { trace = []; run = tt; writes = refl }
writes_have_run image s (writes ∷ later) h may =
    let first = onward image s writes h may.0 in
    let rest = writes_have_run image first.transition.after later first.behind (subst (λ (has : ℕ → Bool). MayWriteEach image has later) (sym first.reaches) may.1) in
    record { trace = first.transition ∷ rest.trace; run = (first.step, rest.run); writes = ap₂ (λ (w : List Write) (ws : List (List Write)). w ∷ ws) first.same rest.writes }
