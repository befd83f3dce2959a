-- The causes of an instruction that needs no facility, draws no label, and isn't one machine instruction.
use Rattle.std.proofs.Common.{◌≡◌, ℕ, ◌+◌, ◌≤◌, true, false, is_some, Some, None, refl, sym, ap, ◌∙◌, arith, nat_lt, lt-ltb}
use Rattle.s390x_base.specs.declared.error.EmitError.TheVariants.{MissingFacility, LabelOutOfRange}
use Rattle.s390x_base.specs.declared.regs.Reg.{Reg}
use Rattle.s390x_inst.proofs.Loads.{each_instruction}
use Rattle.s390x_inst.proofs.Stores.{each_store}
use Rattle.s390x_inst.specs.Emission.{Emission}
use Rattle.s390x_inst.specs.Facilities.{has_facility}
use Rattle.s390x_inst.specs.Loads.{as_load, load_instruction}
use Rattle.s390x_inst.specs.declared.args.MemArg.{MemArg}
use Rattle.s390x_inst.specs.declared.inst.Inst.{Inst}
use Rattle.s390x_inst.specs.declared.inst.Inst.TheVariants.{AllocateArgs}
use Rattle.s390x_inst.specs.declared.load.LoadOp.{LoadOp}
use Rattle.s390x_inst.specs.declared.load.LoadOp.TheVariants.{Load64}
use Rattle.s390x_inst.specs.declared.store.Store.{Store}
use Rattle.s390x_inst.specs.declared.store.StoreOp.{StoreOp}
use Rattle.s390x_inst.specs.declared.store.StoreOp.TheVariants.{Store64}
use Rattle.s390x_inst.specs.Stores.{as_store, store_instruction, by_store}
use Rattle.s390x_inst.specs.declared.state.IsaFlags.{IsaFlags}
use Rattle.s390x_typed_steps.specs.Causes.{Declared, unless, facility_cause, stack_cause, numbers_cause, instruction_fresh_labels, cause_or, memory_cause_or, branch_cause, leaf_cause}
use Rattle.s390x_typed_steps.specs.Memory.{memory, store_memory}
use Rattle.s390x_typed_steps.specs.Resolved.{resolved_instruction}
use Rattle.s390x_typed_steps.specs.SingleInstruction.{single_instruction}
use Rattle.s390x_emit_int.specs.Plain.{IsPlain, IsRegister}
use Rattle.s390x_emit_int.proofs.Emitting.{both_none, leaf_none}
use Rattle.s390x_emit_int.proofs.Single.{none_other}

-- the last clause is a copy for each other load
plain_load : (op : LoadOp) (rd : Reg) (mem : MemArg) → IsPlain (load_instruction op rd mem)
plain_load Load64 rd mem = (refl, refl, refl)
plain_load op rd mem = (refl, refl, refl)

-- a load is such an instruction
pub load_is_plain : (i : Inst) → is_some (as_load i) ≡ true → IsPlain i
load_is_plain = each_instruction (λ i. is_some (as_load i) ≡ true → IsPlain i) (λ op rd mem h. plain_load op rd mem) (λ i e h. let none : is_some (as_load i) ≡ false = ap is_some e in absurd (cc))

-- the same of stores
plain_store : (op : StoreOp) (rd : Reg) (mem : MemArg) → IsPlain (store_instruction op rd mem)
plain_store Store64 rd mem = (refl, refl, refl)
plain_store op rd mem = (refl, refl, refl)

pub store_is_plain : (i : Inst) → is_some (as_store i) ≡ true → IsPlain i
store_is_plain = each_store (λ i. is_some (as_store i) ≡ true → IsPlain i) (λ op rd mem h. plain_store op rd mem) (λ i e h. let none : is_some (as_store i) ≡ false = ap is_some e in absurd (cc))

-- a store's rows are its instruction's: the last clause is a copy for each other store
store_found : (op : StoreOp) (rd : Reg) (mem : MemArg) (s : Store) → as_store (store_instruction op rd mem) ≡ Some s → store_memory s ≡ memory (store_instruction op rd mem)
store_found Store64 rd mem s e = ap (by_store store_memory None) (sym e)
store_found op rd mem s e = ap (by_store store_memory None) (sym e)

pub memory_of_stored : (i : Inst) (s : Store) → as_store i ≡ Some s → store_memory s ≡ memory i
memory_of_stored = each_store (λ i. (s : Store) → as_store i ≡ Some s → store_memory s ≡ memory i) store_found (λ i none s e. absurd (cc))

-- no label is drawn where all of them have numbers
pub numbers_none : (n : ℕ) → n ≤ 4294967296 → numbers_cause n 0 ≡ None
numbers_none n few =
    let below : nat_lt (n + 0) 4294967297 ≡ true = lt-ltb (n + 0) 4294967297 (omega (arith, few)) in
    ap (λ b. unless b LabelOutOfRange) below

-- the allocation of arguments is one machine instruction
no_allocation : (nominal depth : ℕ) (i : Inst) → None ≡ single_instruction i → stack_cause nominal depth i ≡ None
no_allocation nominal depth (AllocateArgs size) none = absurd (cc)
no_allocation nominal depth i none = refl

-- such an instruction has the causes of its operand or its labels alone
pub leaf_plain : (flags : IsaFlags) (e : Emission) (D : Declared) (n nominal depth : ℕ) (i : Inst) → IsPlain i → numbers_cause n 0 ≡ None →
    memory_cause_or D (memory (resolved_instruction e i)) (branch_cause D.blocks depth i) ≡ None → leaf_cause flags D n nominal depth (resolved_instruction e i) ≡ None
leaf_plain flags e D n nominal depth i plain numbers own =
    let facility : facility_cause flags i ≡ None = ap (λ f. unless (has_facility flags f) MissingFacility) plain.0 in
    let stack = no_allocation nominal depth i plain.2 in
    let numbered : numbers_cause n (instruction_fresh_labels i) ≡ None = ap (numbers_cause n) plain.1 ∙ numbers in
    leaf_none flags e D n nominal depth i (both_none _ _ facility (both_none _ _ stack numbered)) (none_other _ i plain.2 ∙ own)

-- one machine instruction on registers that needs no facility has the causes of its registers alone
pub leaf_register : (flags : IsaFlags) (e : Emission) (D : Declared) (n nominal depth : ℕ) (i : Inst) → IsRegister i → numbers_cause n 0 ≡ None →
    cause_or (single_instruction i) (memory_cause_or D (memory (resolved_instruction e i)) (branch_cause D.blocks depth i)) ≡ None → leaf_cause flags D n nominal depth (resolved_instruction e i) ≡ None
leaf_register flags e D n nominal depth i register numbers own =
    let facility : facility_cause flags i ≡ None = ap (λ f. unless (has_facility flags f) MissingFacility) register.0 in
    let numbered : numbers_cause n (instruction_fresh_labels i) ≡ None = ap (numbers_cause n) register.1 ∙ numbers in
    leaf_none flags e D n nominal depth i (both_none _ _ facility (both_none _ _ (register.2 nominal depth) numbered)) own
