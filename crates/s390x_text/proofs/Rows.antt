-- What has no cause of refusal has a row for its text.
use Rattle.std.proofs.Common.{◌≡◌, ℕ, ◌+◌, Bool, true, false, Option, Some, None, List, [], ◌∷◌, refl, ap, ◌∙◌, is_some, ◌&&◌, ◌||◌, not}
use Rattle.std.proofs.lemmas.Bool.{and_parts}
use Rattle.std.specs.Prelude.{cond, nat_eq}
use Rattle.s390x_base.specs.Regs.{is_pair}
use Rattle.s390x_base.specs.declared.error.EmitError.{EmitError}
use Rattle.s390x_base.specs.declared.error.EmitError.TheVariants.{BadOperator, ScratchConflict, OffsetOutOfRange}
use Rattle.s390x_base.specs.declared.regs.Reg.{Reg}
use Rattle.s390x_base.specs.declared.regs.Reg.TheVariants.{Real}
use Rattle.s390x_inst.specs.declared.args.MemArg.{MemArg}
use Rattle.s390x_inst.specs.declared.inst.Inst.{Inst}
use Rattle.s390x_inst.specs.declared.inst.Inst.TheVariants.{Vector}
use Rattle.s390x_inst.specs.declared.vec_inst.VecInst.{VecInst}
use Rattle.s390x_inst.specs.declared.vec_inst.VecInst.TheVariants as V
use Rattle.s390x_inst.specs.declared.ops.ALUOp.{ALUOp}
use Rattle.s390x_inst.specs.declared.ops.ALUOp.TheVariants.{Add32}
use Rattle.s390x_inst.specs.declared.ops.CmpOp.{CmpOp}
use Rattle.s390x_inst.specs.declared.ops.CmpOp.TheVariants.{CmpS32}
use Rattle.s390x_typed_steps.proofs.Causes.{first_left, first_right, unless_true}
use Rattle.s390x_typed_steps.specs.Causes.{Declared, addend_fits, cause_or, first_emit_cause, late_cause, loses_scratch, memory_cause, memory_cause_or, operand_cause, target_cause, unless}
use Rattle.s390x_typed_steps.specs.General.{is_even_pair}
use Rattle.s390x_typed_steps.specs.Memory.{MemoryInstruction, RxForm, load_and_operate, memory, operate, type_of, vector_memory}
use Rattle.s390x_typed_steps.specs.Operands.{has_form, loses_base, offset_fits}
use Rattle.s390x_typed_steps.specs.SingleInstruction.{SingleInstruction, single_instruction, single_with}
use Rattle.s390x_typed_steps.specs.VectorInstruction.{vector_operands_valid, vector_row}
use Rattle.s390x_typed_steps.specs.declared.mem_inst_type.MemInstType.{MemInstType}
use Rattle.s390x_typed_steps.specs.Storage.{alu_rx, alu_rxy, cmp_ril, cmp_rx, cmp_rxy}
use Rattle.s390x_job_fields.specs.Atoms.{reg_text}
use Rattle.s390x_text.specs.Agreement.{has_row_text}
use Rattle.s390x_text_rows.specs.Integer.{conditional_row, three_text}
use Rattle.s390x_text_rows.specs.Mnemonics.{alu_long_name, alu_short_name, cmp_long_name, cmp_relative_name, cmp_short_name}
use Rattle.s390x_text_rows.specs.Operands.{is_reg, pair_cause}
use Rattle.s390x_text_rows.specs.Storage.{access_cause, address_cause, has_row, rs, rx, type_of_rows}
use Rattle.s390x_text_rows.specs.Texts.{row}
use Rattle.s390x_text_rows.specs.declared.error.TextError.TheVariants.{BadPair, NoRow}

-- ---- registers and immediates

-- a row that emission has, for its text
pub row_fine : (name : Option (List ℕ)) (xs : List (List ℕ)) (o : Option SingleInstruction) (c : EmitError) → has_row_text (row name xs).cause ≡ is_some o → cause_or o (Some c) ≡ None → (row name xs).cause ≡ None
row_fine None xs None c same fine = absurd (cc)
row_fine None xs (Some x) c same fine = absurd (cc)
row_fine (Some name) xs o c same fine = refl

-- the same with a condition
pub conditional_fine : (name : Option (List ℕ)) (mask : ℕ) (xs : List (List ℕ)) (o : Option SingleInstruction) (c : EmitError) → has_row_text (conditional_row name mask xs).cause ≡ is_some o → cause_or o (Some c) ≡ None → (conditional_row name mask xs).cause ≡ None
conditional_fine None mask xs None c same fine = absurd (cc)
conditional_fine None mask xs (Some x) c same fine = absurd (cc)
conditional_fine (Some name) mask xs o c same fine = refl

chosen : (b : Bool) (x y : Option (List ℕ)) (xs ys : List (List ℕ)) → (row x xs).cause ≡ None → (row y ys).cause ≡ None → (cond b (row x xs) (row y ys)).cause ≡ None
chosen true x y xs ys p q = p
chosen false x y xs ys p q = q

-- the same with three operands or two
pub three_fine : (three two : Option (List ℕ)) (rd rn : Reg) (last : List ℕ) (o : Option SingleInstruction) (c : EmitError) → has_row_text (three_text three two rd rn last).cause ≡ is_some o → cause_or o (Some c) ≡ None → (three_text three two rd rn last).cause ≡ None
three_fine None two rd rn last None c same fine = absurd (cc)
three_fine None two rd rn last (Some x) c same fine = absurd (cc)
three_fine (Some three) None rd rn last o c same fine = refl
three_fine (Some three) (Some two) rd rn last o c same fine = chosen (is_reg rd rn) (Some two) (Some three) (reg_text rd ∷ last ∷ []) (reg_text rd ∷ reg_text rn ∷ last ∷ []) refl refl

-- ---- pairs

next_fine : (h l : Reg) → is_pair h l ≡ true → pair_cause h l ≡ None
next_fine (Real h) (Real l) p = ap (λ b. cond b None (Some BadPair)) (and_parts _ (nat_eq l.number (h.number + 1)) p).1
next_fine h l p = refl

-- a pair that may stand there has a text, whatever else is asked of the instruction
pub pair_fine : (hi lo : Reg) (others : Bool) (e : EmitError) → unless (is_even_pair hi lo && others) e ≡ None → pair_cause hi lo ≡ None
pair_fine hi lo others e h = next_fine hi lo (and_parts _ (is_pair hi lo) (and_parts (is_even_pair hi lo) others (unless_true _ e h)).0).1

pub pair_with_two_fine : (hi lo : Reg) (others more : Bool) (e : EmitError) → unless (is_even_pair hi lo && others && more) e ≡ None → pair_cause hi lo ≡ None
pair_with_two_fine hi lo others more e h = pair_fine hi lo others e (ap (λ b. unless b e) (and_parts (is_even_pair hi lo && others) more (unless_true _ e h)).0)

-- ---- operands in memory

-- why an operand has no access, where there is one
abbrev pub access_refusal : Option MemoryInstruction → Option EmitError
access_refusal None = None
access_refusal (Some x) = operand_cause (type_of x.form x.accesses) x.operand

-- the forms of an operand on a machine that has accesses relative to the instruction or lacks them
abbrev pub type_there : (has accesses : Bool) → MemInstType → MemInstType
type_there has accesses t = record t { have_pcrel = t.have_pcrel && (has || not accesses) }

-- why it has no access there
abbrev pub refusal_there : (has : Bool) → Option MemoryInstruction → Option EmitError
refusal_there has None = None
refusal_there has (Some x) = operand_cause (type_there has x.accesses (type_of x.form x.accesses)) x.operand

three_none : (a b c : Option EmitError) → a ≡ None → b ≡ None → c ≡ None → first_emit_cause a (first_emit_cause b c) ≡ None
three_none None None c p q r = r
three_none None (Some e) c p q r = q
three_none (Some e) b c p q r = p

not_first : (a b : Bool) → not (a || b) ≡ true → not a ≡ true
not_first false b h = refl
not_first true b h = h

-- the causes of an operand are among those of its instruction
pub operand_fine : (D : Declared) (x : MemoryInstruction) → memory_cause D x ≡ None → operand_cause (type_of x.form x.accesses) x.operand ≡ None
operand_fine D x h =
    let form = first_left (unless (has_form (type_of x.form x.accesses) x.operand) BadOperator) _ h in
    let late = first_left (late_cause x) (target_cause D x) (first_right _ _ (first_right _ _ h)) in
    let keeps = not_first (loses_base x.operand) _ (unless_true (not (loses_scratch x)) ScratchConflict (first_left _ _ late)) in
    let fits = and_parts (offset_fits x.operand) (addend_fits x.operand) (unless_true _ OffsetOutOfRange (first_right _ _ late)) in
    three_none _ _ _ form (ap (λ b. unless b ScratchConflict) keeps) (ap (λ b. unless b OffsetOutOfRange) fits.0)

-- where no other cause is asked
memory_allows : (D : Declared) (o : Option MemoryInstruction) (c : Option EmitError) → memory_cause_or D o c ≡ None → access_refusal o ≡ None
memory_allows D None c fine = refl
memory_allows D (Some x) c fine = operand_fine D x fine

-- whether there are both
have_both : Option MemoryInstruction → Option SingleInstruction → Bool
have_both (Some x) (Some y) = true
have_both _ _ = false

not_single : (o : Option MemoryInstruction) → have_both o None ≡ false
unfolding have_both
not_single None = refl
not_single (Some x) = refl

vector_never_both : (v : VecInst) → have_both (vector_memory v) (single_with (vector_operands_valid v) (vector_row v)) ≡ false
unfolding have_both
vector_never_both (V.VecLoadReplicate size rd mem) = not_single (vector_memory (V.VecLoadReplicate size rd mem))
vector_never_both v = not_single (vector_memory v)

never_both : (i : Inst) → have_both (memory i) (single_instruction i) ≡ false
unfolding have_both
never_both (Vector v) = vector_never_both v
never_both i = not_single (memory i)

one_of : (D : Declared) (o : Option MemoryInstruction) (a : Option SingleInstruction) (c : Option EmitError) → have_both o a ≡ false → cause_or a (memory_cause_or D o c) ≡ None → access_refusal o ≡ None
unfolding have_both
one_of D None a c apart fine = refl
one_of D (Some x) None c apart fine = memory_allows D (Some x) c fine
one_of D (Some x) (Some y) c apart fine = absurd (cc)

-- an instruction without a cause of refusal has none by its access
pub accessed : (D : Declared) (i : Inst) (c : Option EmitError) → cause_or (single_instruction i) (memory_cause_or D (memory i) c) ≡ None → access_refusal (memory i) ≡ None
accessed D i c fine = one_of D (memory i) (single_instruction i) c (never_both i) fine

-- the address's cause is the operand's
pub address_fine : (c : Option EmitError) → c ≡ None → address_cause c ≡ None
address_fine None h = refl
address_fine (Some e) h = absurd (cc)

-- ---- operators on an operand in memory

operator_type : (has : Bool) (op : ALUOp) (r : ℕ) → type_of_rows has (rx (alu_short_name op) (alu_long_name op) None) ≡ type_there has true (type_of (RxForm r (alu_rx op) (alu_rxy op) None) true)
unfolding alu_short_name alu_long_name
operator_type has Add32 r = refl
operator_type has op r = refl

comparison_type : (has : Bool) (op : CmpOp) (r : ℕ) → type_of_rows has (rx (cmp_short_name op) (cmp_long_name op) (Some (cmp_relative_name op))) ≡ type_there has true (type_of (RxForm r (cmp_rx op) (cmp_rxy op) (Some (cmp_ril op))) true)
unfolding cmp_short_name cmp_long_name
comparison_type has CmpS32 r = refl
comparison_type has op r = refl

-- where a text has a row, its cause is that of its operand
found_fine : (found : Bool) (c : Option EmitError) (b : Bool) → has_row_text (cond found (address_cause c) (Some NoRow)) ≡ b → b ≡ true → c ≡ None → cond found (address_cause c) (Some NoRow) ≡ None
found_fine true c b same found fine = address_fine c fine
found_fine false c b same found fine = absurd (cc)

-- an operator on a register and an operand, which has a row
operated : (D : Declared) (has given : Bool) (x y : Option ℕ) (rd ri : Reg) (m : MemArg) (c : EmitError) → memory_cause_or D (operate given x y rd ri m) (Some c) ≡ None → refusal_there has (operate given x y rd ri m) ≡ None
    → (given ≡ true) × (operand_cause (type_there has true (type_of (RxForm 0 x y None) true)) m ≡ None)
operated D has false x y rd ri m c fine allowed = absurd (cc)
operated D has true x y rd ri m c fine allowed = (refl, allowed)

pub operator_fine : (D : Declared) (has : Bool) (op : ALUOp) (rd ri : Reg) (given m : MemArg) (c : EmitError)
    → has_row_text (access_cause has (rx (alu_short_name op) (alu_long_name op) None) m) ≡ is_some (operate (is_some (alu_rx op) || is_some (alu_rxy op)) (alu_rx op) (alu_rxy op) rd ri given)
    → memory_cause_or D (operate (is_some (alu_rx op) || is_some (alu_rxy op)) (alu_rx op) (alu_rxy op) rd ri m) (Some c) ≡ None
    → refusal_there has (operate (is_some (alu_rx op) || is_some (alu_rxy op)) (alu_rx op) (alu_rxy op) rd ri m) ≡ None → access_cause has (rx (alu_short_name op) (alu_long_name op) None) m ≡ None
operator_fine D has op rd ri given m c same fine allowed =
    let row = operated D has (is_some (alu_rx op) || is_some (alu_rxy op)) (alu_rx op) (alu_rxy op) rd ri m c fine allowed in
    found_fine _ _ _ same (ap (λ b. is_some (operate b (alu_rx op) (alu_rxy op) rd ri given)) row.0) (ap (λ t. operand_cause t m) (operator_type has op 0) ∙ row.1)

-- a comparison always has one
comparison_row : (a b : Option (List ℕ)) (r : List ℕ) → has_row (rx a b (Some r)) ≡ true
comparison_row None None r = refl
comparison_row a b r = refl

pub comparison_fine : (has : Bool) (op : CmpOp) (m : MemArg) → operand_cause (type_there has true (type_of (RxForm 0 (cmp_rx op) (cmp_rxy op) (Some (cmp_ril op))) true)) m ≡ None → access_cause has (rx (cmp_short_name op) (cmp_long_name op) (Some (cmp_relative_name op))) m ≡ None
comparison_fine has op m fine =
    let row = comparison_row (cmp_short_name op) (cmp_long_name op) (cmp_relative_name op) in
    let type = type_of_rows has (rx (cmp_short_name op) (cmp_long_name op) (Some (cmp_relative_name op))) in
    let same = ap (λ t. operand_cause t m) (comparison_type has op 0) in
    ap (λ b. cond b (address_cause (operand_cause type m)) (Some NoRow)) row ∙ address_fine (operand_cause type m) (same ∙ fine)

-- one that changes the operand in one access, which has a row
pub atomic_fine : (D : Declared) (has : Bool) (name : Option (List ℕ)) (o : Option ℕ) (rd rn : Reg) (given m : MemArg) (c : EmitError) → has_row_text (access_cause has (rs None name) m) ≡ is_some (load_and_operate o rd rn given)
    → memory_cause_or D (load_and_operate o rd rn m) (Some c) ≡ None → refusal_there has (load_and_operate o rd rn m) ≡ None → access_cause has (rs None name) m ≡ None
atomic_fine D has None None rd rn given m c same fine allowed = absurd (cc)
atomic_fine D has (Some name) (Some x) rd rn given m c same fine allowed = address_fine _ allowed
atomic_fine D has name o rd rn given m c same fine allowed = absurd (cc)
