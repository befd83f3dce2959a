-- Which registers a typed step leaves, by what it does.
use Rattle.std.proofs.Common.{◌≡◌, ℕ, Bool, true, false, List, [], ◌∷◌, Option, Some, None, sym, ap, subst}
use Rattle.std.specs.Prelude.{⊤}
use Rattle.s390x_base.specs.Registers.{general, vector}
use Rattle.s390x_base.specs.declared.ir.MachLabel.{MachLabel}
use Rattle.s390x_base.specs.declared.regs.Reg.{Reg}
use Rattle.s390x_base.specs.declared.regs.Reg.TheVariants.{Real}
use Rattle.s390x_base.specs.declared.trap.TrapKind.{TrapKind}
use Rattle.s390x_lanes.specs.declared.operators.Signedness.{Signedness}
use Rattle.s390x_operations.specs.State.{Registers, Core, set_general, set_vector, with_code}
use Rattle.s390x_operations.specs.Effects.{is_selected}
use Rattle.s390x_operations.specs.declared.effect.Operation.{Operation}
use Rattle.s390x_operations.specs.declared.stop.ConditionCode.{ConditionCode}
use Rattle.s390x_operations.specs.declared.stop.StopKind.{StopKind}
use Rattle.s390x_machine.specs.Layout.{Layout}
use Rattle.s390x_machine.specs.Storage.{OperandStep, operand_address, needs_scratch, aligned_where, is_relative_access}
use Rattle.s390x_machine.specs.StepKinds.{StepKind, Performs, GoesTo, Chooses, GoesByAddress, Leads, GoesByTable, PerformsWhere, ComparesWide, TrapsAlways, TrapsWhere, DebugStops, Silent, Unsupported, fault_codes, performed_at, performed_by, kind_or}
use Rattle.s390x_machine.specs.Typed.{Position, KindStep, OperationStep, goes_on, traps, with_scratch_value, loosen, table_target, TableStep, WhereStep, wide_order}
use Rattle.s390x_alloc_laws.specs.Outputs.{KeepsOthers}
use Rattle.s390x_alloc_laws.proofs.Effects.{Covers, widened, kept_all, kept_twice, kept_by, general_set, vector_set, coded, written, effect_keeps, written_where}

-- a step of this kind leaves all registers but some
abbrev pub KindKeeps : Layout → List Reg → StepKind → Type 0
KindKeeps L changed kind = (k : ℕ) (c : Core) (position : Position) (t : Core) → KindStep L (Some kind) k c position t → KeepsOthers changed c.registers t.registers

-- the same core
same_core : (changed : List Reg) (c t : Core) → t ≡ c → KeepsOthers changed c.registers t.registers
same_core changed c t e = kept_by changed c.registers c.registers t.registers (ap (λ (x : Core). x.registers) e) (kept_all changed c.registers)

-- ---- operations

-- `%r1` may change where it is needed
abbrev pub IsScratchFree : Bool → List Reg → Type 0
IsScratchFree false changed = ⊤
IsScratchFree true changed = Covers changed (Real (general 1) ∷ [])

pub always_free : (needs : Bool) (changed : List Reg) → Covers changed (Real (general 1) ∷ []) → IsScratchFree needs changed
always_free false changed f = tt
always_free true changed f = f

loosened_keeps : (needs : Bool) (v : ℕ) (changed : List Reg) (r : Registers) → IsScratchFree needs changed → KeepsOthers changed r (with_scratch_value needs v r)
loosened_keeps false v changed r f = kept_all changed r
loosened_keeps true v changed r f = widened changed (Real (general 1) ∷ []) r (set_general r 1 v) f (general_set r 1 v)

operation_keeps : (changed : List Reg) (needs : Bool) (op : Operation) (code : StopKind → Option TrapKind) (k : ℕ) (c : Core) (position : Position) (t : Core) → Covers changed (written op.effect) → IsScratchFree needs changed → OperationStep needs op code k c position t → KeepsOthers changed c.registers t.registers
operation_keeps changed needs op code k c position t covers free (goes_on v m e) =
    let first : Registers = with_scratch_value needs v c.registers in
    kept_twice changed c.registers first t.registers (loosened_keeps needs v changed c.registers free) (widened changed (written op.effect) first t.registers covers (effect_keeps op.effect (loosen needs v c) t.registers m.results))
operation_keeps changed needs op code k c position t covers free (traps v kind n m coded same p) =
    kept_by changed c.registers (with_scratch_value needs v c.registers) t.registers (ap (λ (x : Core). x.registers) same) (loosened_keeps needs v changed c.registers free)

pub performs_keeps : (L : Layout) (changed : List Reg) (needs : Bool) (operation : Registers → Operation) (code : StopKind → Option TrapKind) → ((r : Registers) → Covers changed (written (operation r).effect)) → IsScratchFree needs changed → KindKeeps L changed (Performs needs operation code)
performs_keeps L changed needs operation code covers free k c position t step = operation_keeps changed needs (operation c.registers) code k c position t (covers c.registers) free step

where_keeps : (changed : List Reg) (selected : Bool) (op : Operation) (k : ℕ) (c : Core) (position : Position) (t : Core) → Covers changed (written op.effect) → WhereStep selected op k c position t → KeepsOthers changed c.registers t.registers
where_keeps changed true op k c position t covers step = widened changed (written op.effect) c.registers t.registers covers (effect_keeps op.effect c t.registers step.1.results)
where_keeps changed false op k c position t covers step = same_core changed c t step.1

pub condition_keeps : (L : Layout) (changed : List Reg) (mask : ℕ) (operation : Registers → Operation) → ((r : Registers) → Covers changed (written (operation r).effect)) → KindKeeps L changed (PerformsWhere mask operation)
condition_keeps L changed mask operation covers k c position t step = where_keeps changed (is_selected mask c.registers.code) (operation c.registers) k c position t (covers c.registers) step

pub comparison_keeps : (L : Layout) (changed : List Reg) (sign : Signedness) (tmp n m : ℕ) → Covers changed (Real (vector tmp) ∷ []) → KindKeeps L changed (ComparesWide sign tmp n m)
comparison_keeps L changed sign tmp n m covers k c position t step =
    let behind : Registers = set_vector c.registers tmp step.0 in
    let code : ConditionCode = wide_order sign (c.registers.vector n) (c.registers.vector m) in
    kept_by changed c.registers (with_code code behind) t.registers (ap (λ (x : Core). x.registers) step.2) (coded changed code c.registers behind (widened changed (Real (vector tmp) ∷ []) c.registers behind covers (vector_set c.registers tmp step.0)))

-- ---- steps that go elsewhere, or nowhere

pub nothing : (L : Layout) (changed : List Reg) → KindKeeps L changed Unsupported
nothing L changed k c position t step = absurd step

pub silence : (L : Layout) (changed : List Reg) → KindKeeps L changed Silent
silence L changed k c position t step = same_core changed c t step.1

pub jump_keeps : (L : Layout) (changed : List Reg) (b : ℕ) → KindKeeps L changed (GoesTo b)
jump_keeps L changed b k c position t step = same_core changed c t step.1

pub choice_keeps : (L : Layout) (changed : List Reg) (mask a b : ℕ) → KindKeeps L changed (Chooses mask a b)
choice_keeps L changed mask a b k c position t step = same_core changed c t step.1

pub branch_keeps : (L : Layout) (changed : List Reg) (r : ℕ) (targets : List MachLabel) → KindKeeps L changed (GoesByAddress r targets)
branch_keeps L changed r targets k c position t step = same_core changed c t step.3

pub lead_keeps : (L : Layout) (changed : List Reg) (mask j : ℕ) → KindKeeps L changed (Leads mask j)
lead_keeps L changed mask j k c position t step = same_core changed c t step.1

pub trap_keeps : (L : Layout) (changed : List Reg) (code : TrapKind) → KindKeeps L changed (TrapsAlways code)
trap_keeps L changed code k c position t step = same_core changed c t step.1

pub trap_where_keeps : (L : Layout) (changed : List Reg) (mask : ℕ) (code : TrapKind) → KindKeeps L changed (TrapsWhere mask code)
trap_where_keeps L changed mask code k c position t step = same_core changed c t step.1

pub debug_keeps : (L : Layout) (changed : List Reg) → KindKeeps L changed DebugStops
debug_keeps L changed k c position t step = same_core changed c t step.1

indexed_keeps : (L : Layout) (changed : List Reg) (selected : Bool) (o : Option MachLabel) (other : ℕ) (c : Core) (position : Position) (t : Core) → Covers changed (Real (general 1) ∷ []) → TableStep L selected o other c position t → KeepsOthers changed c.registers t.registers
indexed_keeps L changed true o other c position t free step = kept_by changed c.registers (set_general c.registers 1 step.0) t.registers (ap (λ (x : Core). x.registers) step.2) (widened changed (Real (general 1) ∷ []) c.registers (set_general c.registers 1 step.0) free (general_set c.registers 1 step.0))
indexed_keeps L changed false None other c position t free step = absurd step
indexed_keeps L changed false (Some l) other c position t free step =
    let behind : Registers = set_general c.registers 1 step.0 in
    kept_by changed c.registers (with_code step.1 behind) t.registers (ap (λ (x : Core). x.registers) step.3) (coded changed step.1 c.registers behind (widened changed (Real (general 1) ∷ []) c.registers behind free (general_set c.registers 1 step.0)))

pub table_keeps : (L : Layout) (changed : List Reg) (index mask other : ℕ) (targets : List MachLabel) → Covers changed (Real (general 1) ∷ []) → KindKeeps L changed (GoesByTable index mask other targets)
table_keeps L changed index mask other targets free k c position t step = indexed_keeps L changed (is_selected mask c.registers.code) (table_target (c.registers.general index) targets) other c position t free step

-- ---- operands in memory

-- what it does at any address writes no others
abbrev pub WritesOnly : List Reg → OperandStep → Type 0
WritesOnly changed x = (address : ℕ) (r : Registers) → Covers changed (written (x.operation address r).effect)

aligned_covers : (changed : List Reg) (aligned : Bool) (op : Operation) → Covers changed (written op.effect) → Covers changed (written (aligned_where aligned op).effect)
aligned_covers changed aligned op f = subst (λ ws. Covers changed ws) (sym (written_where aligned op)) f

at_address : (L : Layout) (changed : List Reg) (x : OperandStep) (o : Option (Registers → ℕ)) (others : StepKind) → WritesOnly changed x → Covers changed (Real (general 1) ∷ []) → KindKeeps L changed others → KindKeeps L changed (kind_or (performed_at x o) others)
at_address L changed x None others f free keeps = keeps
at_address L changed x (Some address) others f free keeps =
    performs_keeps L changed (needs_scratch x.forms x.operand) (λ r. aligned_where (is_relative_access x) (x.operation (address r) r)) (fault_codes x) (λ r. aligned_covers changed (is_relative_access x) (x.operation (address r) r) (f (address r) r)) (always_free (needs_scratch x.forms x.operand) changed free)

pub access_keeps : (L : Layout) (changed : List Reg) (x : OperandStep) (others : StepKind) → WritesOnly changed x → Covers changed (Real (general 1) ∷ []) → KindKeeps L changed others → KindKeeps L changed (kind_or (performed_by L (Some x)) others)
access_keeps L changed x others f free keeps = at_address L changed x (operand_address L x.operand) others f free keeps
