-- The causes of an instruction whose operand was lowered are those of the instruction.
use Rattle.std.proofs.Common.{◌≡◌, ◌&&◌, not, true, Option, None, sym, ap, ◌∙◌}
use Rattle.s390x_base.specs.declared.error.EmitError.{EmitError}
use Rattle.s390x_base.specs.declared.error.EmitError.TheVariants.{BadOperator, BadRegister, ScratchConflict, OffsetOutOfRange}
use Rattle.s390x_inst.specs.Emission.{Emission}
use Rattle.s390x_typed_steps.specs.Causes.{Declared, first_emit_cause, unless, is_helped, bound_cause, alignment_cause, target_cause, operand_cause, late_cause, memory_cause}
use Rattle.s390x_typed_steps.specs.Memory.{MemoryInstruction, type_of}
use Rattle.s390x_typed_steps.specs.Operands.{Finalized, finalized_operand, resolved_operand, has_form, operand_general}
use Rattle.s390x_typed_steps.proofs.Causes.{first_left, first_right, unless_true}
use Rattle.s390x_address.specs.Lowerings.{offset_cause, lowered_cause}
use Rattle.s390x_address.specs.Rows.{in_state}
use Rattle.s390x_address.proofs.Planning.{resolved_addend, resolved_place, resolved_access, resolved_general}
use Rattle.s390x_address.proofs.Refusing.{late_ok}

-- a place is named alike before and after the operand was resolved
target_same : (D : Declared) (e : Emission) (x : MemoryInstruction) → target_cause D (in_state e x) ≡ target_cause D x
target_same D e x =
    ap (λ b. first_emit_cause (bound_cause D (resolved_operand e x.operand)) (alignment_cause D b (resolved_operand e x.operand))) (resolved_access x.form (type_of x.form x.accesses) x.accesses e x.operand)
    ∙ resolved_place D _ e x.operand

-- the causes by a lowering are the last ones of the instruction
pub lowered_last : (D : Declared) (e : Emission) (x : MemoryInstruction) (f : Finalized) → operand_cause (type_of x.form x.accesses) (resolved_operand e x.operand) ≡ None → f ≡ finalized_operand (type_of x.form x.accesses) (resolved_operand e x.operand) →
    lowered_cause D x f ≡ first_emit_cause (late_cause (in_state e x)) (target_cause D (in_state e x))
lowered_last D e x f none same =
    let y = in_state e x in
    let mi = type_of x.form x.accesses in
    ap (λ g. lowered_cause D x g) same
    ∙ ap (λ t. first_emit_cause (first_emit_cause (unless (not (x.reads_scratch && is_helped (finalized_operand mi y.operand).helpers)) ScratchConflict) (unless t OffsetOutOfRange)) (target_cause D x)) (sym (resolved_addend e x.operand))
    ∙ ap (λ c. first_emit_cause c (target_cause D x)) (sym (late_ok y none))
    ∙ ap (λ c. first_emit_cause (late_cause y) c) (sym (target_same D e x))

pub both_none : (a b : Option EmitError) → a ≡ None → b ≡ None → first_emit_cause a b ≡ None
both_none a b ea eb = ap (λ x. first_emit_cause x b) ea ∙ eb

-- where no cause stands by the lowering, the instruction has none
pub lowered_none : (D : Declared) (e : Emission) (x : MemoryInstruction) (f : Finalized) → (x.operands_valid && operand_general x.operand) ≡ true → operand_cause (type_of x.form x.accesses) (resolved_operand e x.operand) ≡ None → f ≡ finalized_operand (type_of x.form x.accesses) (resolved_operand e x.operand) →
    lowered_cause D x f ≡ None → memory_cause D (in_state e x) ≡ None
lowered_none D e x f valid none same h =
    let y = in_state e x in
    let mi = type_of x.form x.accesses in
    let form : has_form mi y.operand ≡ true = unless_true (has_form mi y.operand) BadOperator (first_left _ (offset_cause y.operand) none) in
    let registers : (y.operands_valid && operand_general y.operand) ≡ true = ap (λ t. x.operands_valid && t) (resolved_general e x.operand) ∙ valid in
    both_none _ _ (ap (λ t. unless t BadOperator) form) (both_none _ _ (ap (λ t. unless t BadRegister) registers) (sym (lowered_last D e x f none same) ∙ h))

-- and where the instruction has none, none stands by the lowering
pub none_lowered : (D : Declared) (e : Emission) (x : MemoryInstruction) (f : Finalized) → operand_cause (type_of x.form x.accesses) (resolved_operand e x.operand) ≡ None → f ≡ finalized_operand (type_of x.form x.accesses) (resolved_operand e x.operand) →
    memory_cause D (in_state e x) ≡ None → lowered_cause D x f ≡ None
none_lowered D e x f none same h =
    let y = in_state e x in
    let mi = type_of x.form x.accesses in
    lowered_last D e x f none same
    ∙ first_right (unless (y.operands_valid && operand_general y.operand) BadRegister) _ (first_right (unless (has_form mi y.operand) BadOperator) _ h)

-- its registers may stand there
pub none_valid : (D : Declared) (e : Emission) (x : MemoryInstruction) → memory_cause D (in_state e x) ≡ None → (x.operands_valid && operand_general x.operand) ≡ true
none_valid D e x h =
    let y = in_state e x in
    let mi = type_of x.form x.accesses in
    ap (λ t. x.operands_valid && t) (sym (resolved_general e x.operand))
    ∙ unless_true (y.operands_valid && operand_general y.operand) BadRegister (first_left _ _ (first_right (unless (has_form mi y.operand) BadOperator) _ h))
