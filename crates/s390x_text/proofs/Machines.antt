-- The causes of an operand on a machine that has accesses relative to the instruction, or lacks them.
use Rattle.std.proofs.Common.{◌≡◌, Bool, true, false, Option, Some, None, is_some, refl, sym, ap, ◌∙◌, ◌&&◌, ◌||◌, not}
use Rattle.std.proofs.lemmas.Bool.{and_left}
use Rattle.std.specs.Prelude.{option_map}
use Rattle.s390x_base.specs.declared.error.EmitError.{EmitError}
use Rattle.s390x_base.specs.declared.error.EmitError.TheVariants.{BadOperator, OffsetOutOfRange, ScratchConflict}
use Rattle.s390x_inst.specs.declared.args.MemArg.{MemArg}
use Rattle.s390x_typed_steps.specs.Causes.{Declared, first_emit_cause, memory_cause_or, operand_cause, unless}
use Rattle.s390x_typed_steps.specs.Memory.{MemoryInstruction, StorageForm, RxForm, accesses_relative, has_relative_row, other_rows, type_of, with_rows, without_relative}
use Rattle.s390x_typed_steps.specs.Operands.{is_relative, loses_base, needs_address, offset_fits}
use Rattle.s390x_typed_steps.specs.declared.mem_inst_type.MemInstType.{MemInstType}
use Rattle.s390x_text.proofs.Rows.{access_refusal, operand_fine, refusal_there, type_there}

-- ---- where the row is there

-- a machine that has all rows
all_forms : (form : StorageForm) (accesses : Bool) → type_there true accesses (type_of form accesses) ≡ type_of form accesses
all_forms (RxForm register short long None) accesses = refl
all_forms form accesses = refl

-- the causes of an operand that isn't relative don't depend on whether there is a row for one that is
not_asked : (t : MemInstType) (b : Bool) (m : MemArg) → is_relative m ≡ false → operand_cause (record t { have_pcrel = b }) m ≡ operand_cause t m
not_asked t b m e =
    let late = first_emit_cause (unless (not (loses_base m)) ScratchConflict) (unless (offset_fits m) OffsetOutOfRange) in
    let of_form : Bool → Option EmitError = λ f. first_emit_cause (unless (t.have_d12 || t.have_d20 || f) BadOperator) late in
    ap of_form (and_left (is_relative m) (not (needs_address (record t { have_pcrel = b }) m)) e) ∙ sym (ap of_form (and_left (is_relative m) (not (needs_address t m)) e))

-- a machine that lacks those of accesses
other_forms : (form : StorageForm) (accesses : Bool) (m : MemArg) → (has_relative_row form && accesses && is_relative m) ≡ false → operand_cause (type_there false accesses (type_of form accesses)) m ≡ operand_cause (type_of form accesses) m
other_forms (RxForm register short long (Some opcode)) true m e = not_asked (type_of (RxForm register short long (Some opcode)) true) false m e
other_forms form accesses m e = refl

and_true : (b : Bool) → (b && true) ≡ b
and_true true = refl
and_true false = refl

-- an access whose row isn't lacking has no more causes there
pub whole_there : (lacks : Bool) (o : Option MemoryInstruction) → (accesses_relative o && lacks) ≡ false → access_refusal o ≡ None → refusal_there (not lacks) o ≡ None
whole_there lacks None e h = refl
whole_there true (Some x) e h = other_forms x.form x.accesses x.operand (sym (and_true (accesses_relative (Some x))) ∙ e) ∙ h
whole_there false (Some x) e h = ap (λ t. operand_cause t x.operand) (all_forms x.form x.accesses) ∙ h

-- ---- where it is lacking

-- the causes of an operand are among those of its access by the other rows
by_others : (D : Declared) (x : MemoryInstruction) (form : StorageForm) (accesses : Bool) → memory_cause_or D (option_map (with_rows x) (other_rows form accesses)) (Some BadOperator) ≡ None → operand_cause (type_there false accesses (type_of form accesses)) x.operand ≡ None
by_others D x (RxForm register short long (Some opcode)) true h = operand_fine D (with_rows x (RxForm register short long None)) h
by_others D x form accesses h = absurd (cc)

pub loaded_there : (D : Declared) (o : Option MemoryInstruction) → memory_cause_or D (without_relative o) (Some BadOperator) ≡ None → refusal_there false o ≡ None
loaded_there D None h = refl
loaded_there D (Some x) h = by_others D x x.form x.accesses h

-- there are other rows
pub has_others : (D : Declared) (o : Option MemoryInstruction) → memory_cause_or D o (Some BadOperator) ≡ None → is_some o ≡ true
has_others D None h = absurd (cc)
has_others D (Some x) h = refl
