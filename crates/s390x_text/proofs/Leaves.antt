-- An instruction that is no loop and has no cause of refusal has a text.
use Rattle.std.proofs.Common.{◌≡◌, ℕ, Bool, true, false, Option, None, Some, is_some, ◌&&◌, not, refl, sym, subst, ◌∙◌}
use Rattle.std.proofs.lemmas.Bool.{and_parts, and_right}
use Rattle.s390x_base.specs.declared.error.EmitError.{EmitError}
use Rattle.s390x_inst.specs.Emission.{Emission}
use Rattle.s390x_inst.specs.declared.state.IsaFlags.{IsaFlags}
use Rattle.s390x_inst.specs.declared.load.LoadOp.{LoadOp}
use Rattle.s390x_inst.specs.declared.load.LoadOp.TheVariants as LoadOps
use Rattle.s390x_inst.specs.Loads.{load_instruction}
use Rattle.s390x_inst.specs.declared.store.StoreOp.{StoreOp}
use Rattle.s390x_inst.specs.declared.store.StoreOp.TheVariants as StoreOps
use Rattle.s390x_inst.specs.Stores.{store_instruction}
use Rattle.s390x_inst.proofs.Transfers.{Transfer, LoadOf, StoreOf, as_transfer, by_transfer}
use Rattle.s390x_base.specs.declared.regs.Reg.{Reg}
use Rattle.s390x_inst.specs.declared.args.MemArg.{MemArg}
use Rattle.s390x_inst.specs.declared.inst.Inst.{Inst}
use Rattle.s390x_inst.specs.declared.inst.Inst.TheVariants as I
use Rattle.s390x_typed_steps.proofs.Causes.{first_left, first_right}
use Rattle.s390x_typed_steps.proofs.RelativeRows.{rest_none}
use Rattle.s390x_typed_steps.specs.Baseline.{body_for, whole_or_loaded}
use Rattle.s390x_typed_steps.specs.Causes.{Declared, body_cause, branch_cause, cause_or, facility_cause, leaf_cause, memory_cause_or}
use Rattle.s390x_typed_steps.specs.General.{is_general}
use Rattle.s390x_typed_steps.specs.Memory.{MemoryInstruction, accesses_relative, loaded_memory, memory}
use Rattle.s390x_typed_steps.specs.Operands.{resolved_operand}
use Rattle.s390x_typed_steps.specs.Resolved.{resolved_instruction}
use Rattle.s390x_typed_steps.specs.SingleInstruction.{single_instruction}
use Rattle.s390x_typed_steps.specs.Storage.{atomic_rsy}
use Rattle.s390x_typed_steps.specs.Tree.{Whole}
use Rattle.s390x_text.proofs.Agreement.{rows_agree}
use Rattle.s390x_text.specs.Agreement.{RowsAgree}
use Rattle.s390x_text.specs.Calls.{call_text}
use Rattle.s390x_text.specs.Instructions.{leaf_text}
use Rattle.s390x_text_rows.specs.Integer.{alu_half_name, alu_part_name, extend_name, indexed_name, insert_half_name, insert_part_name, load_half_name, load_part_name, logical_indexed_name, selected_name}
use Rattle.s390x_text_rows.specs.Mnemonics.{alu_halfword_name, alu_signed_word_name, alu_three_halfword_name, alu_three_name, alu_two_name, alu_unsigned_word_name, atomic_name, cmp_halfword_name, cmp_signed_word_name, cmp_trap_name, cmp_trap_signed_name, cmp_trap_unsigned_name, cmp_two_name, cmp_unsigned_word_name}
use Rattle.s390x_text_rows.specs.Mnemonics.{rotate_name, rotate_test_name}
use Rattle.s390x_text_rows.specs.Simple.{simple_text}
use Rattle.s390x_text_rows.specs.Storage.{address_cause}
use Rattle.s390x_text_rows.specs.Texts.{Text, text_or}
use Rattle.s390x_text_rows.specs.declared.error.TextError.{TextError}
use Rattle.s390x_text.proofs.Machines.{has_others, loaded_there, whole_there}
use Rattle.s390x_text.proofs.Rows.{access_refusal, accessed, address_fine, atomic_fine, comparison_fine, conditional_fine, operator_fine, pair_fine, pair_with_two_fine, refusal_there, row_fine, three_fine}
use Rattle.s390x_text.proofs.Vectors.{vector_fine}

-- the causes of an instruction behind those of its facility and of the stack sizes
abbrev own_cause : Declared → (depth : ℕ) → Inst → Option EmitError
own_cause D depth i = cause_or (single_instruction i) (memory_cause_or D (memory i) (branch_cause D.blocks depth i))

-- the text of one that is no loop
abbrev alone_text : (has : Bool) → Emission → Inst → Text
alone_text has e i = text_or (call_text e i) (simple_text has e i)

-- a load, and a store: the last clause is a copy for each
load_fine : (has : Bool) (e : Emission) (op : LoadOp) (rd : Reg) (mem : MemArg) → refusal_there has (memory (resolved_instruction e (load_instruction op rd mem))) ≡ None → (alone_text has e (load_instruction op rd mem)).cause ≡ None
load_fine has e LoadOps.Load64 rd mem t = address_fine _ t
load_fine has e op rd mem t = address_fine _ t

store_fine : (has : Bool) (e : Emission) (op : StoreOp) (rd : Reg) (mem : MemArg) → refusal_there has (memory (resolved_instruction e (store_instruction op rd mem))) ≡ None → (alone_text has e (store_instruction op rd mem)).cause ≡ None
store_fine has e StoreOps.Store64 rd mem t = address_fine _ t
store_fine has e op rd mem t = address_fine _ t

-- the text of an access has the cause of its operand; another one has none
abbrev HasItsCause : (has : Bool) → Option MemoryInstruction → Option TextError → Type 0
HasItsCause has None cause = cause ≡ None
HasItsCause has (Some x) cause = cause ≡ address_cause (refusal_there has (Some x))

without_cause : (has : Bool) (o : Option MemoryInstruction) (cause : Option TextError) → HasItsCause has o cause → refusal_there has o ≡ None → cause ≡ None
without_cause has None cause own t = own
without_cause has (Some x) cause own t = own ∙ address_fine _ t

-- a load or a store, or an instruction whose text has no cause of refusal but its operand's
transfer_or_fine : (has : Bool) (e : Emission) (i : Inst) (o : Option Transfer) → by_transfer (λ l. true ≡ true) (λ s. true ≡ true) (HasItsCause has (memory (resolved_instruction e i)) (alone_text has e i).cause) o → refusal_there has (memory (resolved_instruction e (by_transfer (λ l. load_instruction l.op l.rd l.mem) (λ s. store_instruction s.op s.rd s.mem) i o))) ≡ None →
    (alone_text has e (by_transfer (λ l. load_instruction l.op l.rd l.mem) (λ s. store_instruction s.op s.rd s.mem) i o)).cause ≡ None
transfer_or_fine has e i None own t = without_cause has (memory (resolved_instruction e i)) _ own t
transfer_or_fine has e i (Some (LoadOf l)) own t = load_fine has e l.op l.rd l.mem t
transfer_or_fine has e i (Some (StoreOf s)) own t = store_fine has e s.op s.rd s.mem t

not_there : (o : Option MemoryInstruction) → o ≡ None → is_some o ≡ true → ⊥
not_there None e s = absurd (cc)
not_there (Some x) e s = absurd (cc)

-- a load or a store, or an instruction that has no row relative to the instruction
transfer_or_refused : (e : Emission) (i : Inst) (o : Option Transfer) → by_transfer (λ l. true ≡ true) (λ s. true ≡ true) (loaded_memory (resolved_instruction e i) ≡ None) o →
    is_some (loaded_memory (resolved_instruction e (by_transfer (λ l. load_instruction l.op l.rd l.mem) (λ s. store_instruction s.op s.rd s.mem) i o))) ≡ true → refusal_there false (memory (resolved_instruction e (by_transfer (λ l. load_instruction l.op l.rd l.mem) (λ s. store_instruction s.op s.rd s.mem) i o))) ≡ None →
    (alone_text false e (by_transfer (λ l. load_instruction l.op l.rd l.mem) (λ s. store_instruction s.op s.rd s.mem) i o)).cause ≡ None
transfer_or_refused e i None none s t = absurd (not_there (loaded_memory (resolved_instruction e i)) none s)
transfer_or_refused e i (Some (LoadOf l)) none s t = load_fine false e l.op l.rd l.mem t
transfer_or_refused e i (Some (StoreOf x)) none s t = store_fine false e x.op x.rd x.mem t

-- on a machine that has accesses relative to the instruction, or where this one is none
fine : (has : Bool) (e : Emission) (D : Declared) (depth : ℕ) (i : Inst) → RowsAgree has e i → own_cause D depth (resolved_instruction e i) ≡ None → access_refusal (memory (resolved_instruction e i)) ≡ None → refusal_there has (memory (resolved_instruction e i)) ≡ None → (alone_text has e i).cause ≡ None
fine has e D depth (I.AluRRR op rd rn rm) a h m t = three_fine (alu_three_name op) (alu_two_name op) _ _ _ _ _ a.arithmetic h
fine has e D depth (I.AluRRSImm16 op rd rn imm) a h m t = three_fine (alu_three_halfword_name op) (alu_halfword_name op) _ _ _ _ _ a.arithmetic h
fine has e D depth (I.AluRR op rd ri rm) a h m t = row_fine (alu_two_name op) _ _ _ a.arithmetic h
fine has e D depth (I.AluRSImm16 op rd ri imm) a h m t = row_fine (alu_halfword_name op) _ _ _ a.arithmetic h
fine has e D depth (I.AluRSImm32 op rd ri imm) a h m t = row_fine (alu_signed_word_name op) _ _ _ a.arithmetic h
fine has e D depth (I.AluRUImm32 op rd ri imm) a h m t = row_fine (alu_unsigned_word_name op) _ _ _ a.arithmetic h
fine has e D depth (I.AluRUImm16Shifted op rd ri imm) a h m t = row_fine (alu_part_name op imm.shift) _ _ _ a.arithmetic h
fine has e D depth (I.AluRUImm32Shifted op rd ri imm) a h m t = row_fine (alu_half_name op imm.shift) _ _ _ a.arithmetic h
fine has e D depth (I.RxSBG op rd ri rn start end amount) a h m t = row_fine (selected_name (Some (rotate_name op)) start end) _ _ _ a.arithmetic h
fine has e D depth (I.RxSBGTest op rd rn start end amount) a h m t = row_fine (selected_name (rotate_test_name op) start end) _ _ _ a.arithmetic h
fine has e D depth (I.SMulWide rd rn rm) a h m t = pair_with_two_fine rd.hi rd.lo (is_general rn) (is_general rm) _ h
fine has e D depth (I.Flogr rd rn) a h m t = pair_fine rd.hi rd.lo (is_general rn) _ h
fine has e D depth (I.CmpRR op rn rm) a h m t = row_fine (cmp_two_name op) _ _ _ a.comparisons h
fine has e D depth (I.CmpRSImm16 op rn imm) a h m t = row_fine (cmp_halfword_name op) _ _ _ a.comparisons h
fine has e D depth (I.CmpRSImm32 op rn imm) a h m t = row_fine (cmp_signed_word_name op) _ _ _ a.comparisons h
fine has e D depth (I.CmpRUImm32 op rn imm) a h m t = row_fine (cmp_unsigned_word_name op) _ _ _ a.comparisons h
fine has e D depth (I.CmpTrapRR op rn rm mask code) a h m t = conditional_fine (cmp_trap_name op) mask _ _ _ a.comparisons h
fine has e D depth (I.CmpTrapRSImm16 op rn imm mask code) a h m t = conditional_fine (cmp_trap_signed_name op) mask _ _ _ a.comparisons h
fine has e D depth (I.CmpTrapRUImm16 op rn imm mask code) a h m t = conditional_fine (cmp_trap_unsigned_name op) mask _ _ _ a.comparisons h
fine has e D depth (I.Mov64UImm16Shifted rd imm) a h m t = row_fine (load_part_name imm.shift) _ _ _ a.moves h
fine has e D depth (I.Mov64UImm32Shifted rd imm) a h m t = row_fine (load_half_name imm.shift) _ _ _ a.moves h
fine has e D depth (I.Insert64UImm16Shifted rd ri imm) a h m t = row_fine (insert_part_name imm.shift) _ _ _ a.moves h
fine has e D depth (I.Insert64UImm32Shifted rd ri imm) a h m t = row_fine (insert_half_name imm.shift) _ _ _ a.moves h
fine has e D depth (I.Extend rd rn signed from to) a h m t = row_fine (extend_name signed from to) _ _ _ a.moves h
fine has e D depth (I.LoadIndexedAddr rd base index offset size) a h m t = row_fine (indexed_name size) _ _ _ a.moves h
fine has e D depth (I.LoadLogicalIndexedAddr rd base index offset size) a h m t = row_fine (logical_indexed_name size) _ _ _ a.moves h
fine has e D depth (I.AluRX op rd ri mem) a h m t = operator_fine D has op rd ri mem (resolved_operand e mem) _ a.operators h t
fine has e D depth (I.CmpRX op rn mem) a h m t = comparison_fine has op (resolved_operand e mem) t
fine has e D depth (I.AtomicRmw op rd rn mem) a h m t = atomic_fine D has (atomic_name op) (atomic_rsy op) rd rn mem (resolved_operand e mem) _ a.operators h t
fine has e D depth (I.Vector v) a h m t = vector_fine e D v h m
-- loops and calls are no steps by themselves
fine has e D depth (I.Loop' mask body all) a h m t = absurd (cc)
fine has e D depth (I.Call link info) a h m t = absurd (cc)
fine has e D depth (I.ReturnCall info) a h m t = absurd (cc)
fine has e D depth i a h m t = transfer_or_fine has e i (as_transfer i) refl t

there : (lacks : Bool) (flags : IsaFlags) (D : Declared) (n depth : ℕ) (e : Emission) (i : Inst) → (accesses_relative (memory (resolved_instruction e i)) && lacks) ≡ false → leaf_cause flags D n e.nominal depth (resolved_instruction e i) ≡ None → (alone_text (not lacks) e i).cause ≡ None
there lacks flags D n depth e i has h =
    let j = resolved_instruction e i in
    let own = first_right _ (own_cause D depth j) (first_right _ _ (first_left _ _ h)) in
    let allowed = accessed D j _ own in
    fine (not lacks) e D depth i (rows_agree (not lacks) e i) own allowed (whole_there lacks (memory j) has allowed)

-- where the machine has all rows
pub whole_fine : (flags : IsaFlags) (D : Declared) (n depth : ℕ) (e : Emission) (i : Inst) → leaf_cause flags D n e.nominal depth (resolved_instruction e i) ≡ None → (text_or (call_text e i) (simple_text true e i)).cause ≡ None
whole_fine flags D n depth e i h = there false flags D n depth e i (and_right (accesses_relative (memory (resolved_instruction e i))) false refl) h

-- ---- an access whose row the machine lacks

loaded_fine : (e : Emission) (i : Inst) → is_some (loaded_memory (resolved_instruction e i)) ≡ true → refusal_there false (memory (resolved_instruction e i)) ≡ None → (alone_text false e i).cause ≡ None
loaded_fine e (I.CmpRX op rn mem) s t = comparison_fine false op (resolved_operand e mem) t
loaded_fine e i s t = transfer_or_refused e i (as_transfer i) (assumption (rest_none (resolved_instruction e i))) s t

-- ---- on each machine

pub leaf_fine : (flags : IsaFlags) (D : Declared) (n depth : ℕ) (e : Emission) (i : Inst) → body_cause flags D n e.nominal depth (body_for flags (Whole (resolved_instruction e i))) ≡ None → (leaf_text flags e i).cause ≡ None
leaf_fine flags D n depth e i h = go (accesses_relative (memory j) && flags.no_relative_memory) refl h
  where
    j : Inst
    j = resolved_instruction e i

    go : (t : Bool) → (accesses_relative (memory j) && flags.no_relative_memory) ≡ t → body_cause flags D n e.nominal depth (whole_or_loaded t j) ≡ None → (leaf_text flags e i).cause ≡ None
    go false is h = there flags.no_relative_memory flags D n depth e i is h
    go true is h =
        let own = first_right (facility_cause flags j) _ (first_left _ _ h) in
        let lacks = (and_parts (accesses_relative (memory j)) flags.no_relative_memory is).1 in
        subst (λ l. (alone_text (not l) e i).cause ≡ None) (sym lacks) (loaded_fine e i (has_others D (loaded_memory j) own) (loaded_there D (memory j) own))
