-- A load or a store of a doubleword, by its code at once.
use Rattle.std.proofs.Common.{◌≡◌, ℕ, ℤ, pos, List, [], ◌∷◌, length, Bool, true, false, cond, ◌&&◌, ◌||◌, Option, None, Some, IfSome, refl, sym, ap, subst, ◌∙◌}
use Rattle.s390x_base.specs.Regs.{number_of}
use Rattle.s390x_base.specs.declared.error.EmitError.TheVariants.{BadRegister}
use Rattle.s390x_buffer.specs.State.{BufferState}
use Rattle.s390x_inst.specs.Emission.{Emission}
use Rattle.s390x_inst.specs.declared.inst.Inst.{Inst}
use Rattle.s390x_inst.specs.declared.inst.Inst.TheVariants.{Mov64SImm32}
use Rattle.s390x_typed_steps.specs.Causes.{declared_in, unless, memory_cause, memory_cause_or, branch_cause}
use Rattle.s390x_typed_steps.specs.General.{is_general, low_displacement}
use Rattle.s390x_typed_steps.specs.MachineInstruction.{bytes_of, rxy}
use Rattle.s390x_typed_steps.specs.Memory.{MemoryInstruction, RxForm, memory}
use Rattle.s390x_typed_steps.specs.Operands.{no_register, scratch, fits_20, is_far, is_numbered}
use Rattle.s390x_typed_steps.specs.Parts.{memory_parts}
use Rattle.s390x_typed_steps.specs.Resolved.{resolved_instruction}
use Rattle.s390x_typed_steps.specs.SingleInstruction.{single_instruction}
use Rattle.s390x_address.specs.Appended.{with_parts}
use Rattle.s390x_address.specs.Lowerings.{IsBehind}
use Rattle.s390x_address.specs.Rows.{in_state}
use Rattle.s390x_address.specs.declared.rows.StorageRows.TheVariants.{OneRegister}
use Rattle.s390x_address.proofs.Displacing.{long_found, long_rows, long_indexed, far_found}
use Rattle.s390x_address.proofs.Putting.{memory_put}
use Rattle.s390x_emit_int.specs.Doubleword.{opcode_of, relative_opcode_of, instruction_of, reads_scratch, IsPassed}
use Rattle.s390x_emit_int.specs.Emission.{leaf_fragments}
use Rattle.s390x_emit_int.specs.Fragments.{apply_all}
use Rattle.s390x_emit_int.specs.declared.doubleword.Doubleword.{Doubleword}
use Rattle.s390x_emit_int.proofs.Accessing.{parts_run}
use Rattle.s390x_emit_int.proofs.Resolving.{found_memory, single_resolved}
use Rattle.s390x_emit_int.proofs.Single.{memory_fragments}

-- what is found is a code by which it is
passed : (a : Doubleword) (found : Option (List ℕ)) → (is_general a.register && is_general a.base) ≡ true → IfSome found (λ code. IsBehind (instruction_of a) [] code) → IfSome found (λ code. IsPassed (instruction_of a) [] code)
passed a None valid behind = tt
passed a (Some code) valid behind = (behind, λ D. behind.3 D ∙ ap (λ t. unless t BadRegister) valid)

-- the code of its row at a displacement that holds its offset
pub near_passed : (a : Doubleword) (disp : ℤ) (found : Option (List ℕ)) → (is_general a.register && is_general a.base) ≡ true → Some disp ≡ cond (fits_20 a.off) (Some a.off) None →
    IfSome found (λ code. code ≡ bytes_of (rxy (opcode_of a) (number_of a.register) (number_of a.base) (number_of no_register) (low_displacement disp))) →
    IfSome found (λ code. IsPassed (instruction_of a) [] code)
near_passed a disp found valid fits same =
    let opcode = opcode_of a in
    let relative = relative_opcode_of a in
    let long = long_found found (Some opcode) opcode a.register a.base disp a.off refl fits same in
    passed a found valid (long_rows found (OneRegister a.register None (Some opcode) (Some relative)) a.register None (Some opcode) (Some relative) a.base a.off a.flags true (is_general a.register) (a.stores && is_numbered 1 a.register) refl (λ h. refl) long)

either : (s t : Bool) → (s || t) ≡ false → (s ≡ false) × (t ≡ false)
either true t h = absurd (cc)
either false t h = (refl, h)

-- that at the index %r1, behind the load of its offset
pub far_passed : (a : Doubleword) (imm : ℤ) (code : List ℕ) → (is_general a.register && is_general a.base) ≡ true → reads_scratch a ≡ false → Some imm ≡ cond (is_far a.off) (Some a.off) None →
    code ≡ bytes_of (rxy (opcode_of a) (number_of a.register) (number_of a.base) (number_of scratch) (low_displacement (pos 0))) →
    IsPassed (instruction_of a) (Mov64SImm32 scratch imm ∷ []) code
far_passed a imm code valid unread far same =
    let opcode = opcode_of a in
    let relative = relative_opcode_of a in
    let form = RxForm (number_of a.register) None (Some opcode) (Some relative) in
    let reads = either (is_numbered 1 a.base) (a.stores && is_numbered 1 a.register) unread in
    let indexed = long_indexed (Some code) a.register a.base None (Some opcode) (Some relative) opcode a.flags true refl refl same in
    let found = far_found form a.base imm a.off a.flags true (is_general a.register) code far reads.0 indexed in
    let behind = subst (λ b. IsBehind (record { form = form; operand = (instruction_of a).operand; accesses = true; operands_valid = is_general a.register; reads_scratch = b }) (Mov64SImm32 scratch imm ∷ []) code) (sym reads.1) found in
    (behind, λ D. behind.3 D ∙ ap (λ t. unless t BadRegister) valid)

-- ---- as an instruction

-- the parts of an instruction with a memory operand that no cause refuses, appended, are its fragments
pub as_leaf : (s t : BufferState) (e : Emission) (i : Inst) (x : MemoryInstruction) (depth after : ℕ) → None ≡ single_instruction i → Some x ≡ memory i → memory_cause (declared_in s) (in_state e x) ≡ None → t ≡ with_parts s (memory_parts (in_state e x)) →
    (memory_cause_or (declared_in s) (memory (resolved_instruction e i)) (branch_cause s.block_count depth i) ≡ None) × (t ≡ apply_all s (leaf_fragments (length s.labels) after (resolved_instruction e i)))
as_leaf s t e i x depth after single row none put =
    let y = in_state e x in
    let found = found_memory e i x row in
    let same = memory_fragments (resolved_instruction e i) y (length s.labels) after (single ∙ sym (single_resolved e i)) (sym found) in (
      ap (λ o. memory_cause_or (declared_in s) o (branch_cause s.block_count depth i)) found ∙ none,
      put ∙ sym (parts_run (memory_parts y) s (memory_put y)) ∙ ap (apply_all s) (sym same),
    )
