-- Operands before and after they are resolved.
use Rattle.std.proofs.Common.{◌≡◌, ℕ, Bool, Some, None, refl, Result, Ok, Err, OnOk}
use Rattle.s390x_inst.specs.Emission.{Emission}
use Rattle.s390x_inst.specs.Memory.{flags_of}
use Rattle.s390x_inst.specs.declared.args.MemArg.{MemArg}
use Rattle.s390x_inst.specs.declared.args.MemArg.TheVariants.{BXD12}
use Rattle.s390x_typed_steps.specs.Causes.{Declared, first_emit_cause, bound_cause, alignment_cause, addend_fits, relative_access}
use Rattle.s390x_typed_steps.specs.Memory.{StorageForm, RxForm}
use Rattle.s390x_typed_steps.specs.Operands.{resolved_operand, has_form, operand_general}
use Rattle.s390x_typed_steps.specs.declared.mem_inst_type.MemInstType.{MemInstType}

-- a frame operand has the forms of an offset
pub resolved_form : (mi : MemInstType) (e : Emission) (m : MemArg) → has_form mi (resolved_operand e m) ≡ has_form mi m
resolved_form mi e (BXD12 base index disp flags) = refl
resolved_form mi e m = refl

-- nothing else is known of the access
pub resolved_flags : (e : Emission) (m : MemArg) → flags_of (resolved_operand e m) ≡ flags_of m
resolved_flags e (BXD12 base index disp flags) = refl
resolved_flags e m = refl

-- it is no symbol
pub resolved_addend : (e : Emission) (m : MemArg) → addend_fits (resolved_operand e m) ≡ addend_fits m
resolved_addend e (BXD12 base index disp flags) = refl
resolved_addend e m = refl

-- it names no place
pub resolved_place : (D : Declared) (boundary : ℕ) (e : Emission) (m : MemArg) → first_emit_cause (bound_cause D (resolved_operand e m)) (alignment_cause D boundary (resolved_operand e m)) ≡ first_emit_cause (bound_cause D m) (alignment_cause D boundary m)
resolved_place D boundary e (BXD12 base index disp flags) = refl
resolved_place D boundary e m = refl

resolved_relative : (register opcode : ℕ) (mi : MemInstType) (accesses : Bool) (e : Emission) (m : MemArg) → relative_access (RxForm register None None (Some opcode)) mi accesses (resolved_operand e m) ≡ relative_access (RxForm register None None (Some opcode)) mi accesses m
resolved_relative register opcode mi accesses e (BXD12 base index disp flags) = refl
resolved_relative register opcode mi accesses e m = refl

-- its access isn't relative to the instruction
pub resolved_access : (form : StorageForm) (mi : MemInstType) (accesses : Bool) (e : Emission) (m : MemArg) → relative_access form mi accesses (resolved_operand e m) ≡ relative_access form mi accesses m
resolved_access (RxForm register rx_opcode rxy_opcode (Some opcode)) mi accesses e m = resolved_relative register opcode mi accesses e m
resolved_access form mi accesses e m = refl

-- its registers are general ones where those of the offset are
pub resolved_general : (e : Emission) (m : MemArg) → operand_general (resolved_operand e m) ≡ operand_general m
resolved_general e (BXD12 base index disp flags) = refl
resolved_general e m = refl

-- what both answers of a call say of an Ok
pub on_ok : {T E P Q : Type 0} (r : Result T E) → OnOk r P → (P → Q) → OnOk r Q
on_ok (Ok x) h f = f h
on_ok (Err e) h f = h
