-- Where typed steps lead, by the instructions that they are of.
use Rattle.std.proofs.Common.{◌≡◌, ℕ, zero, suc, ◌+◌, ◌-◌, ◌%◌, ◌/◌, Bool, true, false, List, [], ◌∷◌, ◌++◌, length, Option, Some, None, inl, inr, slice_get, refl, sym, ap, subst, ◌∙◌, arith}
use Rattle.std.specs.Prelude.{nat_eq, nat_lt, ◌==◌, if◌then◌else◌, is_some, option_map}
use Rattle.std.proofs.lemmas.Bool.{and_from, lt-ltb, or_left, or_right, eq-eqb}
use Rattle.std.proofs.lemmas.Bool.Decides.{nat_tests}
use Rattle.s390x_base.specs.Regs.{number_of}
use Rattle.s390x_base.specs.declared.ir.MachLabel.{MachLabel}
use Rattle.s390x_base.specs.declared.regs.Reg.{Reg}
use Rattle.s390x_base.specs.declared.trap.TrapKind.{TrapKind}
use Rattle.s390x_inst.specs.Emission.{Emission}
use Rattle.s390x_inst.specs.Portions.{closing, first_portion, portions}
use Rattle.s390x_inst.specs.declared.calls.CallInstDest.{CallInstDest}
use Rattle.s390x_inst.specs.declared.calls.TryCallInfo.{TryCallInfo}
use Rattle.s390x_inst.specs.declared.inst.Inst.{Inst}
use Rattle.s390x_inst.specs.declared.inst.Inst.TheVariants as I
use Rattle.s390x_inst.specs.declared.state.FrameLayout.{FrameLayout}
use Rattle.s390x_inst.specs.declared.vec_inst.VecInst.{VecInst}
use Rattle.s390x_inst.specs.declared.vec_inst.VecInst.TheVariants.{VecInt128SCmpHi, VecInt128UCmpHi}
use Rattle.s390x_assign.specs.Assignments.{assigned_portions, assigned_operator, assigned_vector, portion_at, register_at}
use Rattle.s390x_assign.proofs.Described.{head_or, head_portion}
use Rattle.s390x_alloc_laws.specs.Allocatable.{IsAssigned}
use Rattle.s390x_lanes.specs.declared.operators.Signedness.{Signedness}
use Rattle.s390x_lanes.specs.declared.operators.Signedness.TheVariants.{Signed, Unsigned}
use Rattle.s390x_operations.specs.State.{Core, Registers}
use Rattle.s390x_operations.specs.Effects.{is_selected}
use Rattle.s390x_operations.specs.declared.effect.Operation.{Operation}
use Rattle.s390x_operations.specs.declared.stop.StopKind.{StopKind}
use Rattle.s390x_machine.specs.Layout.{Layout}
use Rattle.s390x_machine.specs.Storage.{loaded_step, operand_step}
use Rattle.s390x_machine.specs.StepKinds.{StepKind, Performs, GoesTo, Chooses, GoesByAddress, GoesByTable, ComparesWide, Returns, TrapsAlways, TrapsWhere, DebugStops, Silent, Unsupported}
use Rattle.s390x_machine.specs.StepKinds.{Performed, branch_kind, composite_kind, instruction_kind, kind_or, loaded_kind, single_operation, performed_by, performed_in_memory, step_kind, where_kind}
use Rattle.s390x_machine.specs.Typed.{At, Ended, Trapped, IsTarget, KindStep, OperationStep, goes_on, traps, TableStep, TypedStep, WhereStep, kind_of_step, table_target}
use Rattle.s390x_machine.specs.VectorSteps.{ConditionalOperation, conditional_operation}
use Rattle.s390x_typed_steps.specs.Calls.{map_site, patchable_site, return_site, site_labels}
use Rattle.s390x_typed_steps.specs.Resolved.{resolved_instruction, resolved_vector}
use Rattle.s390x_typed_steps.specs.Steps.{Step, Plain, Shortened, LoadedStep}
use Rattle.s390x_alloc_laws.proofs.Portions.{kind_as_portion, loaded_as_portion, portion_kind, portion_loaded_kind}
use Rattle.s390x_alloc.specs.Shape.{Ending, leads_to, leaves, falls, block_ending, ending, ending_of, ends_before, is_label_in, is_leading}
use Rattle.s390x_alloc_laws.specs.Successors.{CallsHaveNoHandlers, EndsBlock, IsStepOf, JumpsLead, StepAt, StepsLeadToSuccessors, StepsStay}

-- step k goes on to step j by what the checker says of its instruction
abbrev GoesAs : Layout → Ending → (k j : ℕ) → Type 0
GoesAs L (leads_to labels) k j = (b : ℕ) × (is_label_in labels b ≡ true) × (j ≡ L.first_step b)
GoesAs L leaves k j = ⊥
GoesAs L falls k j = j ≡ suc k

-- the same of each step of a kind
abbrev Led : Layout → Ending → StepKind → Type 0
Led L e kind = (k : ℕ) (c t : Core) (j : ℕ) → KindStep L (Some kind) k c (At j) t → GoesAs L e k j

-- ---- labels

label_here : (l : MachLabel) (ls : List MachLabel) → is_label_in (l ∷ ls) l.0 ≡ true
label_here l ls = or_left (nat_eq l.0 l.0) (is_label_in ls l.0) (eq-eqb l.0 l.0 refl)

label_behind : (l m : MachLabel) (ls : List MachLabel) → is_label_in ls m.0 ≡ true → is_label_in (l ∷ ls) m.0 ≡ true
label_behind l m ls h = or_right (nat_eq l.0 m.0) (is_label_in ls m.0) h

listed : (ls : List MachLabel) (index : ℕ) (l : MachLabel) → slice_get ls index ≡ Some l → is_label_in ls l.0 ≡ true
listed [] index l h = absurd cc
listed (x ∷ ls) zero l h =
    let same : x ≡ l = cc in
    or_left (nat_eq x.0 l.0) (is_label_in ls l.0) (ap (λ (y : MachLabel). nat_eq y.0 l.0) same ∙ eq-eqb l.0 l.0 refl)
listed (x ∷ ls) (suc index) l h = label_behind x l ls (listed ls index l h)

listed_where : (b : Bool) (index : ℕ) (ls : List MachLabel) (l : MachLabel) → (if b then slice_get ls index else None) ≡ Some l → is_label_in ls l.0 ≡ true
listed_where true index ls l h = listed ls index l h
listed_where false index ls l h = absurd cc

-- ---- kinds

operation_goes : (needs : Bool) (op : Operation) (code : StopKind → Option TrapKind) (k : ℕ) (c t : Core) (j : ℕ) → OperationStep needs op code k c (At j) t → j ≡ suc k
operation_goes needs op code k c t j (goes_on v m e) = cc
operation_goes needs op code k c t j (traps v kind n m coded same p) = absurd cc

performs : (L : Layout) (needs : Bool) (operation : Registers → Operation) (code : StopKind → Option TrapKind) → Led L falls (Performs needs operation code)
performs L needs operation code k c t j h = operation_goes needs (operation c.registers) code k c t j h

refuses : (L : Layout) (e : Ending) → Led L e Unsupported
refuses L e k c t j h = absurd h

keeps_silent : (L : Layout) → Led L falls Silent
keeps_silent L k c t j h = let e : At j ≡ At (suc k) = h.0 in cc

jumps : (L : Layout) (dest : MachLabel) → Led L (leads_to (dest ∷ [])) (GoesTo dest.0)
jumps L dest k c t j h =
    let e : At j ≡ At (L.first_step dest.0) = h.0 in
    (dest.0, label_here dest [], cc)

choice_goes : (L : Layout) (selected : Bool) (taken other : MachLabel) (k j : ℕ) → At j ≡ At (if selected then L.first_step taken.0 else L.first_step other.0) → GoesAs L (leads_to (taken ∷ other ∷ [])) k j
choice_goes L true taken other k j h = (taken.0, label_here taken (other ∷ []), cc)
choice_goes L false taken other k j h = (other.0, label_behind taken other (other ∷ []) (label_here other []), cc)

chooses : (L : Layout) (mask : ℕ) (taken other : MachLabel) → Led L (leads_to (taken ∷ other ∷ [])) (Chooses mask taken.0 other.0)
chooses L mask taken other k c t j h = choice_goes L (is_selected mask c.registers.code) taken other k j h.0

target_in : (L : Layout) (targets : List MachLabel) (held b : ℕ) → IsTarget L targets held b → is_label_in targets b ≡ true
target_in L targets held b x = subst (λ n. is_label_in targets n ≡ true) x.number (listed targets x.index x.label x.listed)

branches : (L : Layout) (r : ℕ) (targets : List MachLabel) → Led L (leads_to targets) (GoesByAddress r targets)
branches L r targets k c t j h =
    let e : At j ≡ At (L.first_step h.0) = h.2 in
    (h.0, target_in L targets (c.registers.general r) h.0 h.1, cc)

table_goes : (L : Layout) (selected : Bool) (o : Option MachLabel) (other : MachLabel) (targets : List MachLabel) → ((l : MachLabel) → o ≡ Some l → is_label_in targets l.0 ≡ true) → (k : ℕ) (c t : Core) (j : ℕ) →
    TableStep L selected o other.0 c (At j) t → GoesAs L (leads_to (other ∷ targets)) k j
table_goes L true o other targets f k c t j h =
    let e : At j ≡ At (L.first_step other.0) = h.1 in
    (other.0, label_here other targets, cc)
table_goes L false None other targets f k c t j h = absurd h
table_goes L false (Some l) other targets f k c t j h =
    let e : At j ≡ At (L.first_step l.0) = h.2 in
    (l.0, label_behind other l targets (f l refl), cc)

looks_up : (L : Layout) (index mask : ℕ) (other : MachLabel) (targets : List MachLabel) → Led L (leads_to (other ∷ targets)) (GoesByTable index mask other.0 targets)
looks_up L index mask other targets k c t j h =
    let x : ℕ = c.registers.general index in
    table_goes L (is_selected mask c.registers.code) (table_target x targets) other targets (λ l is. listed_where (x % 4 == 0) (x / 4) targets l is) k c t j h

returns : (L : Layout) (link : ℕ) → Led L leaves (Returns link)
returns L link k c t j h = let e = h.0 in absurd cc

traps_always : (L : Layout) (code : TrapKind) → Led L leaves (TrapsAlways code)
traps_always L code k c t j h = let e = h.0 in absurd cc

trap_goes : (selected : Bool) (code : TrapKind) (k j : ℕ) → At j ≡ (if selected then Ended (Trapped code) else At (suc k)) → j ≡ suc k
trap_goes true code k j h = absurd cc
trap_goes false code k j h = cc

traps_where : (L : Layout) (mask : ℕ) (code : TrapKind) → Led L falls (TrapsWhere mask code)
traps_where L mask code k c t j h = trap_goes (is_selected mask c.registers.code) code k j h.0

stops : (L : Layout) → Led L falls DebugStops
stops L k c t j h = let e = h.0 in absurd cc

where_goes : (selected : Bool) (op : Operation) (k : ℕ) (c t : Core) (j : ℕ) → WhereStep selected op k c (At j) t → j ≡ suc k
where_goes true op k c t j h = let e : At j ≡ At (suc k) = h.0 in cc
where_goes false op k c t j h = let e : At j ≡ At (suc k) = h.0 in cc

performs_where : (L : Layout) (o : Option ConditionalOperation) → Led L falls (where_kind o)
performs_where L None k c t j h = absurd h
performs_where L (Some x) k c t j h = where_goes (is_selected x.mask c.registers.code) (x.operation c.registers) k c t j h

compares_wide : (L : Layout) (sign : Signedness) (tmp n m : ℕ) → Led L falls (ComparesWide sign tmp n m)
compares_wide L sign tmp n m k c t j h = let e : At j ≡ At (suc k) = h.1 in cc

-- ---- instructions

either_performs : (L : Layout) (o : Option Performed) (others : StepKind) → Led L falls others → Led L falls (kind_or o others)
either_performs L None others f = f
either_performs L (Some x) others f = performs L x.needs x.operation x.code

ordinary : (L : Layout) (i : Inst) → Led L falls (branch_kind i) → Led L falls (instruction_kind L i)
ordinary L i f = either_performs L (single_operation L i) (kind_or (performed_in_memory L i) (branch_kind i)) (either_performs L (performed_in_memory L i) (branch_kind i) f)

composes : (L : Layout) (v : VecInst) → Led L falls (composite_kind v)
composes L (VecInt128SCmpHi tmp rn rm) = compares_wide L Signed (number_of tmp) (number_of rn) (number_of rm)
composes L (VecInt128UCmpHi tmp rn rm) = compares_wide L Unsigned (number_of tmp) (number_of rn) (number_of rm)
composes L v = performs_where L (conditional_operation v)

-- the last clause is a copy for each that is left
kind_goes : (L : Layout) (e : Emission) (i : Inst) (s : List Reg) → Led L (ending i) (portion_kind L e (portion_at (first_portion i) s).0)
kind_goes L e (I.Loop' mask body all) s = refuses L falls
kind_goes L e (I.Jump dest) s = jumps L dest
kind_goes L e (I.CondBr taken not_taken mask) s = chooses L mask taken not_taken
kind_goes L e (I.IndirectBr rn targets) s = branches L (number_of (register_at rn s)) targets.items
kind_goes L e (I.JTSequence ridx other mask targets) s = looks_up L (number_of (register_at ridx s)) mask other targets.items
kind_goes L e (I.Ret link) s = returns L (number_of link)
kind_goes L e (I.ReturnCall info) s = refuses L leaves
kind_goes L e (I.Trap code) s = traps_always L code
kind_goes L e (I.TrapIf mask code) s = traps_where L mask code
kind_goes L e I.Debugtrap s = stops L
kind_goes L e (I.Call link info) s = refuses L falls
kind_goes L e (I.Args args) s = keeps_silent L
kind_goes L e (I.Rets rets) s = keeps_silent L
kind_goes L e I.Nop0 s = keeps_silent L
kind_goes L e (I.DummyUse reg) s = keeps_silent L
kind_goes L e I.SequencePoint s = keeps_silent L
kind_goes L e (I.Vector v) s = ordinary L (resolved_instruction e (assigned_operator (I.Vector v) s).0) (composes L (resolved_vector e (assigned_vector v s).0))
kind_goes L e i s = ordinary L (resolved_instruction e (assigned_operator i s).0) (refuses L falls)

-- its operand's address is loaded first
loads_first : (L : Layout) (i : Inst) → Led L falls (loaded_kind L i)
loads_first L i = either_performs L (performed_by L (option_map loaded_step (operand_step i))) Unsupported (refuses L falls)

loaded_goes : (L : Layout) (e : Emission) (i : Inst) (s : List Reg) → Led L (ending i) (portion_loaded_kind L e (portion_at (first_portion i) s).0)
loaded_goes L e (I.Loop' mask body all) s = refuses L falls
loaded_goes L e (I.Jump dest) s = refuses L (leads_to (dest ∷ []))
loaded_goes L e (I.CondBr taken not_taken mask) s = refuses L (leads_to (taken ∷ not_taken ∷ []))
loaded_goes L e (I.IndirectBr rn targets) s = refuses L (leads_to targets.items)
loaded_goes L e (I.JTSequence ridx other mask targets) s = refuses L (leads_to (other ∷ targets.items))
loaded_goes L e (I.Ret link) s = refuses L leaves
loaded_goes L e (I.ReturnCall info) s = refuses L leaves
loaded_goes L e (I.Trap code) s = refuses L leaves
loaded_goes L e (I.Call link info) s = refuses L falls
loaded_goes L e (I.Args args) s = refuses L falls
loaded_goes L e (I.Rets rets) s = refuses L falls
loaded_goes L e i s = loads_first L (resolved_instruction e (assigned_operator i s).0)

-- ---- what an instruction becomes

head_given : (i : Inst) (s : List Reg) → head_or closing (assigned_portions (portions i) s).0 ≡ (portion_at (first_portion i) s).0
head_given (I.Loop' mask body all) s = refl
head_given i s = refl

becomes : (i j : Inst) (s : List Reg) → IsAssigned i s j → first_portion j ≡ (portion_at (first_portion i) s).0
becomes i j s h = sym (head_portion j) ∙ ap (head_or closing) h ∙ head_given i s

kind_led : (L : Layout) (e : Emission) (i j : Inst) (s : List Reg) → IsAssigned i s j → Led L (ending i) (instruction_kind L (resolved_instruction e j))
kind_led L e i j s h = subst (λ z. Led L (ending i) z) (sym (kind_as_portion L e j)) (subst (λ p. Led L (ending i) (portion_kind L e p)) (sym (becomes i j s h)) (kind_goes L e i s))

loaded_led : (L : Layout) (e : Emission) (i j : Inst) (s : List Reg) → IsAssigned i s j → Led L (ending i) (loaded_kind L (resolved_instruction e j))
loaded_led L e i j s h = subst (λ z. Led L (ending i) z) (sym (loaded_as_portion L e j)) (subst (λ p. Led L (ending i) (portion_loaded_kind L e p)) (sym (becomes i j s h)) (loaded_goes L e i s))

step_led : (L : Layout) (e : Emission) (i j : Inst) (s : List Reg) (step : Step) → IsAssigned i s j → IsStepOf (resolved_instruction e j) step → Led L (ending i) (step_kind L step)
step_led L e i j s (Plain x) h own = subst (λ y. Led L (ending i) (instruction_kind L y)) (sym own) (kind_led L e i j s h)
step_led L e i j s (Shortened r x) h own = subst (λ y. Led L (ending i) (instruction_kind L y)) (sym own) (kind_led L e i j s h)
step_led L e i j s (LoadedStep x) h own = subst (λ y. Led L (ending i) (loaded_kind L y)) (sym own) (loaded_led L e i j s h)
step_led L e i j s step h own = absurd own

goes : (L : Layout) (k : ℕ) (i : Inst) → StepAt L k i → (c t : Core) (j : ℕ) → TypedStep L k c (At j) t → GoesAs L (ending i) k j
goes L k i a c t j h = step_led L a.state i a.instruction a.registers a.step a.assigned a.own k c t j (subst (λ o. KindStep L (kind_of_step L o) k c (At j) t) a.stands h)

-- ---- the laws

inside : (L : Layout) (e : Ending) (k j : ℕ) → is_leading e ≡ false → GoesAs L e k j → j ≡ suc k
inside L (leads_to labels) k j n g = absurd cc
inside L leaves k j n g = absurd g
inside L falls k j n g = g

pub steps_stay : StepsStay
steps_stay L k i a n c t j h = inside L (ending i) k j n (goes L k i a c t j h)

last_length : (before : List Inst) (i : Inst) → length (before ++ i ∷ []) ≡ suc (length before)
last_length [] i = refl
last_length (x ∷ before) i = ap suc (last_length before i)

last_got : (before : List Inst) (i : Inst) → slice_get (before ++ i ∷ []) (length before) ≡ Some i
last_got [] i = refl
last_got (x ∷ before) i = last_got before i

last_ending : (before : List Inst) (i : Inst) → block_ending (before ++ i ∷ []) ≡ ending i
last_ending before i =
    let n : length (before ++ i ∷ []) ≡ suc (length before) = last_length before i in
    let e : length (before ++ i ∷ []) - 1 ≡ length before = omega (arith, n) in
    ap ending_of (ap (λ m. slice_get (before ++ i ∷ []) m) e ∙ last_got before i)

next_number : (here : ℕ) → nat_eq (here + 1) (suc here) ≡ true
next_number here = grind (arith, nat_tests)

leads_on : (L : Layout) (count here k : ℕ) (e : Ending) (j : ℕ) (next : Step) → EndsBlock L count here k → slice_get L.steps j ≡ Some next → GoesAs L e k j → (b : ℕ) × (ends_before count here e b ≡ true) × (j ≡ L.first_step b)
leads_on L count here k (leads_to labels) j next ends at g = g
leads_on L count here k leaves j next ends at g = absurd g
leads_on L count here k falls j next (inl x) at g = (suc here, and_from (nat_eq (here + 1) (suc here)) (nat_lt (suc here) count) (next_number here) (lt-ltb (suc here) count x.0), g ∙ x.1)
leads_on L count here k falls j next (inr none) at g =
    let past : slice_get L.steps j ≡ None = ap (λ n. slice_get L.steps n) g ∙ none in
    absurd cc

pub steps_lead : StepsLeadToSuccessors
steps_lead L count here k before i a ends c t j next h at =
    subst (λ e. (b : ℕ) × (ends_before count here e b ≡ true) × (j ≡ L.first_step b)) (sym (last_ending before i)) (leads_on L count here k (ending i) j next ends at (goes L k i a c t j h))

-- ---- calls

no_labels : (layout : FrameLayout) (m : Option ℕ) (o : Option TryCallInfo) (patchable : Bool) (dest : CallInstDest) → is_some o ≡ false → site_labels (map_site m ++ (return_site layout o ∷ patchable_site patchable dest)) ≡ []
no_labels layout m (Some t) patchable dest h = absurd cc
no_labels layout None None true dest h = refl
no_labels layout None None false dest h = refl
no_labels layout (Some n) None true dest h = refl
no_labels layout (Some n) None false dest h = refl

pub no_handlers : CallsHaveNoHandlers
no_handlers e link info h = no_labels e.layout e.stack_map info.try_call_info info.patchable info.dest h

-- ---- a jump

pub jumps_lead : JumpsLead
jumps_lead e L k dest c at = (
  record { registers = []; instruction = I.Jump dest; assigned = refl; state = e; step = Plain (I.Jump dest); stands = at; own = refl },
  subst (λ o. KindStep L (kind_of_step L o) k c (At (L.first_step dest.0)) c) (sym at) (refl, refl),
)
