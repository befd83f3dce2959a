-- A step that loads its operand's address first, since the machine lacks the row relative to the instruction, runs as that instruction.
use Rattle.std.proofs.Common.{◌≡◌, ℕ, [], Option, Some, None, true, false, refl, subst}
use Rattle.s390x_base.specs.Regs.{number_of}
use Rattle.s390x_inst.specs.declared.ops.CmpOp.{CmpOp}
use Rattle.s390x_inst.specs.declared.ops.CmpOp.TheVariants as C
use Rattle.s390x_base.specs.declared.regs.Reg.{Reg}
use Rattle.s390x_inst.specs.declared.args.MemArg.{MemArg}
use Rattle.s390x_inst.specs.declared.load.LoadOp.{LoadOp}
use Rattle.s390x_inst.specs.declared.load.LoadOp.TheVariants as LoadOps
use Rattle.s390x_inst.specs.Loads.{load_instruction}
use Rattle.s390x_inst.specs.declared.store.StoreOp.{StoreOp}
use Rattle.s390x_inst.specs.declared.store.StoreOp.TheVariants as StoreOps
use Rattle.s390x_inst.specs.Stores.{store_instruction}
use Rattle.s390x_inst.proofs.Transfers.{Transfer, LoadOf, StoreOf, as_transfer, by_transfer}
use Rattle.s390x_inst.specs.declared.inst.Inst.{Inst}
use Rattle.s390x_inst.specs.declared.inst.Inst.TheVariants as I
use Rattle.s390x_typed_steps.proofs.RelativeRows.{rest_none}
use Rattle.s390x_typed_steps.specs.Memory.{RxForm, MemoryInstruction, type_of, load, load_rows, store, store_rows, rest_memory, loaded_memory, without_relative}
use Rattle.s390x_typed_steps.specs.Parts.{memory_or, step_parts}
use Rattle.s390x_typed_steps.specs.declared.mem_inst_type.MemInstType.{MemInstType}
use Rattle.s390x_typed_steps.specs.Steps.{Step, LoadedStep}
use Rattle.s390x_typed_steps.specs.Storage.{cmp_rx, cmp_rxy}
use Rattle.s390x_machine.specs.Computations.{comparison}
use Rattle.s390x_machine.specs.CodeAt.{ValidMemoryOr}
use Rattle.s390x_machine.specs.Layout.{Layout}
use Rattle.s390x_machine.specs.OneStep.{StepRuns}
use Rattle.s390x_machine.specs.StepKinds.{Unsupported, kind_or, performed_at}
use Rattle.s390x_machine.specs.Typed.{kind_of_step}
use Rattle.s390x_machine.specs.Storage.{cmp_forms, loaded_value, loads_at, stored_value, stores_at, operand_address}
use Rattle.s390x_operations.specs.State.{Registers}
use Rattle.s390x_operations.specs.declared.effect.Operation.{Operation}
use Rattle.s390x_machine.proofs.Built.{StepAt}
use Rattle.s390x_machine.proofs.StorageRows.{load_indexed_rows, store_indexed_rows, cmp_short_rows, cmp_long_rows}
use Rattle.s390x_machine.proofs.StorageSteps.{loads, stores, compares_in_memory}

-- what has none isn't a step that emission lets pass
refused : (L : Layout) (o : Option MemoryInstruction) → o ≡ None → ValidMemoryOr L o ⊥ → ⊥
refused L o e valid = subst (λ m. ValidMemoryOr L m ⊥) e valid

-- ---- those that have one

cmp_loaded : (op : CmpOp) (n : ℕ) → record (cmp_forms op) { have_pcrel = false } ≡ type_of (RxForm n (cmp_rx op) (cmp_rxy op) None) true
cmp_loaded C.CmpS32 n = refl
cmp_loaded _ n = refl

-- what is known of a step that loads the address of a load's operand first
abbrev MayBeLoaded : {L : Layout} {k : ℕ} {s : Step} → StepAt L k s → Option MemoryInstruction → MemInstType → Reg → (short long : Option ℕ) → MemArg → (ℕ → Registers → Operation) → Type 0
MayBeLoaded {L = L} {s = s} b x forms rd short long mem operation =
    (forms ≡ type_of (RxForm (number_of rd) short long None) true)
    × (kind_of_step L (Some s) ≡ Some (kind_or (performed_at (record { operand = mem; forms = forms; accesses = true; operation = operation }) (operand_address L mem)) Unsupported))
    × (step_parts s ≡ memory_or x [])
    × ValidMemoryOr L x ⊥

-- a load, where it has a row relative to the instruction
load_by_address : (L : Layout) (k : ℕ) (op : LoadOp) (rd : Reg) (mem : MemArg) (relative : Option ℕ) (b : StepAt L k (LoadedStep (load_instruction op rd mem))) →
    MayBeLoaded b (without_relative (load rd (load_rows op).rx (load_rows op).rxy relative mem)) (record (loaded_value op).forms { have_pcrel = false }) rd (load_rows op).rx (load_rows op).rxy mem (loads_at (loaded_value op).size (loaded_value op).second (number_of rd)) → StepRuns L k
load_by_address L k op rd mem None b is = absurd is.3
load_by_address L k op rd mem (Some opcode) b is = loads b (loaded_value op).size (loaded_value op).second (load_rows op).rx (load_rows op).rxy None (load_indexed_rows op) tt rd mem (record (loaded_value op).forms { have_pcrel = false }) is

-- the last clause is a copy for each
load_loaded : (L : Layout) (k : ℕ) (op : LoadOp) (rd : Reg) (mem : MemArg) → StepAt L k (LoadedStep (load_instruction op rd mem)) → ValidMemoryOr L (loaded_memory (load_instruction op rd mem)) ⊥ → StepRuns L k
load_loaded L k LoadOps.Load64 rd mem b valid = load_by_address L k LoadOps.Load64 rd mem (load_rows LoadOps.Load64).ril b (refl, refl, refl, valid)
load_loaded L k op rd mem b valid = load_by_address L k op rd mem (load_rows op).ril b (refl, refl, refl, valid)

-- a store, likewise
store_by_address : (L : Layout) (k : ℕ) (op : StoreOp) (rd : Reg) (mem : MemArg) (relative : Option ℕ) (b : StepAt L k (LoadedStep (store_instruction op rd mem))) →
    MayBeLoaded b (without_relative (store rd (store_rows op).rx (store_rows op).rxy relative mem)) (record (stored_value op).forms { have_pcrel = false }) rd (store_rows op).rx (store_rows op).rxy mem (stores_at (stored_value op).second (number_of rd)) → StepRuns L k
store_by_address L k op rd mem None b is = absurd is.3
store_by_address L k op rd mem (Some opcode) b is = stores b (stored_value op).second (store_rows op).rx (store_rows op).rxy None (store_indexed_rows op) tt rd mem (record (stored_value op).forms { have_pcrel = false }) is

store_loaded : (L : Layout) (k : ℕ) (op : StoreOp) (rd : Reg) (mem : MemArg) → StepAt L k (LoadedStep (store_instruction op rd mem)) → ValidMemoryOr L (loaded_memory (store_instruction op rd mem)) ⊥ → StepRuns L k
store_loaded L k StoreOps.Store64 rd mem b valid = store_by_address L k StoreOps.Store64 rd mem (store_rows StoreOps.Store64).ril b (refl, refl, refl, valid)
store_loaded L k op rd mem b valid = store_by_address L k op rd mem (store_rows op).ril b (refl, refl, refl, valid)

-- a load or a store, or what has no row relative to the instruction
transfer_or_none : (L : Layout) (k : ℕ) (i : Inst) (rest : Option MemoryInstruction) → without_relative rest ≡ None → (o : Option Transfer) →
    StepAt L k (LoadedStep (by_transfer (λ l. load_instruction l.op l.rd l.mem) (λ s. store_instruction s.op s.rd s.mem) i o)) →
    ValidMemoryOr L (by_transfer (λ l. loaded_memory (load_instruction l.op l.rd l.mem)) (λ s. loaded_memory (store_instruction s.op s.rd s.mem)) (without_relative rest) o) ⊥ → StepRuns L k
transfer_or_none L k i rest none None b valid = absurd (refused L (without_relative rest) none valid)
transfer_or_none L k i rest none (Some (LoadOf l)) b valid = load_loaded L k l.op l.rd l.mem b valid
transfer_or_none L k i rest none (Some (StoreOf s)) b valid = store_loaded L k s.op s.rd s.mem b valid

pub loaded_runs : (L : Layout) (k : ℕ) (i : Inst) → StepAt L k (LoadedStep i) → ValidMemoryOr L (loaded_memory i) ⊥ → StepRuns L k
loaded_runs L k (I.CmpRX op rn mem) b valid =
    compares_in_memory b (comparison op) (cmp_rx op) (cmp_rxy op) None (cmp_short_rows op) (cmp_long_rows op) tt rn mem (record (cmp_forms op) { have_pcrel = false }) (cmp_loaded op (number_of rn), refl, refl, valid)
loaded_runs L k i b valid = transfer_or_none L k i (rest_memory i) (rest_none i) (as_transfer i) b valid
