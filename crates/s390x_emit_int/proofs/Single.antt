-- What emission does with an instruction that is one machine instruction, and with one that isn't.
use Rattle.std.proofs.Common.{◌≡◌, ℕ, Bool, true, false, List, [], ◌∷◌, Option, Some, None, Result, Ok, Err, refl, sym, ap, ◌∙◌, arith}
use Rattle.s390x_base.specs.declared.trap.TrapKind.{TrapKind}
use Rattle.s390x_inst.specs.declared.state.IsaFlags.{IsaFlags}
use Rattle.s390x_base.specs.declared.error.EmitError.{EmitError}
use Rattle.s390x_base.specs.declared.error.EmitError.TheVariants.{BadRegister}
use Rattle.s390x_inst.specs.declared.inst.Inst.{Inst}
use Rattle.s390x_inst.specs.declared.inst.Inst.TheVariants.{Jump, CondBr, CondBreak, JTSequence}
use Rattle.s390x_typed_steps.specs.SingleCode.{code_where, single_code}
use Rattle.s390x_typed_steps.specs.SingleInstruction.{SingleInstruction, single_instruction, stop_code}
use Rattle.s390x_typed_steps.specs.MachineInstruction.{MachineInstruction, bytes_of, size_of}
use Rattle.s390x_typed_steps.specs.Parts.{CodePart, branch_parts, memory_parts, row_part, parts_or, memory_or, parts_size}
use Rattle.s390x_typed_steps.specs.Memory.{MemoryInstruction, memory}
use Rattle.s390x_typed_steps.specs.Causes.{Declared, unless, facility_cause, branch_cause, cause_or, memory_cause_or, instruction_cause, stack_cause}
use Rattle.s390x_typed_steps.proofs.Causes.{first_right}
use Rattle.s390x_typed_steps.specs.Sizes.{instruction_size}
use Rattle.s390x_emit_int.specs.Emission.{part_fragments, branch_fragments, branch_size, memory_size_or, leaf_fragments}

-- what a code that was found tells
pub ok_code : (valid : Bool) (row : MachineInstruction) (code : List ℕ) → Ok code ≡ code_where valid row → (valid ≡ true) × (code ≡ bytes_of row)
unfolding code_where
ok_code true row code e = (refl, cc)
ok_code false row code e = absurd (cc)

pub err_code : (valid : Bool) (row : MachineInstruction) (e : EmitError) → Err e ≡ code_where valid row → (valid ≡ false) × (e ≡ BadRegister)
unfolding code_where
err_code true row e h = absurd (cc)
err_code false row e h = (refl, cc)

pub some_single : (r : Result (List ℕ) EmitError) (o : Option SingleInstruction) → Some r ≡ single_code o → (x : SingleInstruction) × (Some x ≡ o) × (r ≡ code_where x.operands_valid x.row)
some_single r None e = absurd (cc)
some_single r (Some x) e = (x, refl, cc)

pub no_single : (o : Option SingleInstruction) → None ≡ single_code o → None ≡ o
no_single None e = refl
no_single (Some x) e = absurd (cc)

pub some_fragments : (i : Inst) (x : SingleInstruction) (n after : ℕ) → Some x ≡ single_instruction i → leaf_fragments n after i ≡ part_fragments (row_part x.row (stop_code i) ∷ [])
some_fragments (Jump dest) x n after e = absurd (cc)
some_fragments (CondBr taken not_taken mask) x n after e = absurd (cc)
some_fragments (CondBreak mask) x n after e = absurd (cc)
some_fragments (JTSequence ridx other mask targets) x n after e = absurd (cc)
some_fragments i x n after e = ap (λ o. part_fragments (parts_or o (stop_code i) (memory_or (memory i) (branch_parts i)))) (sym e)

pub none_fragments : (i : Inst) (n after : ℕ) → None ≡ single_instruction i → None ≡ memory i → leaf_fragments n after i ≡ branch_fragments n after i
none_fragments (Jump dest) n after e m = refl
none_fragments (CondBr taken not_taken mask) n after e m = refl
none_fragments (CondBreak mask) n after e m = refl
none_fragments (JTSequence ridx other mask targets) n after e m = refl
none_fragments i n after e m = ap (λ o. part_fragments (parts_or o (stop_code i) (memory_or (memory i) (branch_parts i)))) (sym e) ∙ ap (λ o. part_fragments (memory_or o (branch_parts i))) (sym m)

pub memory_fragments : (i : Inst) (x : MemoryInstruction) (n after : ℕ) → None ≡ single_instruction i → Some x ≡ memory i → leaf_fragments n after i ≡ part_fragments (memory_parts x)
memory_fragments (Jump dest) x n after e m = absurd (cc)
memory_fragments (CondBr taken not_taken mask) x n after e m = absurd (cc)
memory_fragments (CondBreak mask) x n after e m = absurd (cc)
memory_fragments (JTSequence ridx other mask targets) x n after e m = absurd (cc)
memory_fragments i x n after e m = ap (λ o. part_fragments (parts_or o (stop_code i) (memory_or (memory i) (branch_parts i)))) (sym e) ∙ ap (λ o. part_fragments (memory_or o (branch_parts i))) (sym m)

pub some_other : (others : Option EmitError) (i : Inst) (x : SingleInstruction) → Some x ≡ single_instruction i → cause_or (single_instruction i) others ≡ unless x.operands_valid BadRegister
some_other others i x e = ap (λ o. cause_or o others) (sym e)

pub none_other : (others : Option EmitError) (i : Inst) → None ≡ single_instruction i → cause_or (single_instruction i) others ≡ others
none_other others i e = ap (λ o. cause_or o others) (sym e)

-- an instruction without a cause has none behind its facility and its stack sizes
pub behind_facility : (flags : IsaFlags) (D : Declared) (nominal depth : ℕ) (i : Inst) → instruction_cause flags D nominal depth i ≡ None → cause_or (single_instruction i) (memory_cause_or D (memory i) (branch_cause D.blocks depth i)) ≡ None
behind_facility flags D nominal depth i h = first_right (stack_cause nominal depth i) _ (first_right (facility_cause flags i) _ h)

pub some_cause : (flags : IsaFlags) (D : Declared) (nominal depth : ℕ) (i : Inst) (x : SingleInstruction) → Some x ≡ single_instruction i → instruction_cause flags D nominal depth i ≡ None → unless x.operands_valid BadRegister ≡ None
some_cause flags D nominal depth i x e h = sym (some_other (memory_cause_or D (memory i) (branch_cause D.blocks depth i)) i x e) ∙ behind_facility flags D nominal depth i h

pub none_cause : (flags : IsaFlags) (D : Declared) (nominal depth : ℕ) (i : Inst) → None ≡ single_instruction i → instruction_cause flags D nominal depth i ≡ None → memory_cause_or D (memory i) (branch_cause D.blocks depth i) ≡ None
none_cause flags D nominal depth i e h = sym (none_other (memory_cause_or D (memory i) (branch_cause D.blocks depth i)) i e) ∙ behind_facility flags D nominal depth i h

row_size : (m : MachineInstruction) (code : Option TrapKind) → parts_size (row_part m code ∷ []) ≡ size_of m
row_size m None = omega arith
row_size m (Some code) = omega arith

pub some_size : (i : Inst) (x : SingleInstruction) → Some x ≡ single_instruction i → instruction_size i ≡ size_of x.row
some_size (CondBreak mask) x e = absurd (cc)
some_size i x e = ap (λ o. parts_size (parts_or o (stop_code i) (memory_or (memory i) (branch_parts i)))) (sym e) ∙ row_size x.row (stop_code i)

or_size : (o : Option MemoryInstruction) (others : List CodePart) → parts_size (memory_or o others) ≡ memory_size_or o (parts_size others)
or_size None others = refl
or_size (Some x) others = refl

pub none_size : (i : Inst) → None ≡ single_instruction i → instruction_size i ≡ memory_size_or (memory i) (branch_size i)
none_size (CondBreak mask) e = refl
none_size i e = ap (λ o. parts_size (parts_or o (stop_code i) (memory_or (memory i) (branch_parts i)))) (sym e) ∙ or_size (memory i) (branch_parts i)
