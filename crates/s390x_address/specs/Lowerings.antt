-- How the code's lowering of an operand stands for its helpers and the operand of the access.
use Rattle.std.specs.Prelude.{◌≡◌, ℕ, ℤ, pos, ◌+ℤ◌, List, [], ◌∷◌, ◌++◌, length, Bool, true, false, not, ◌&&◌, nat_lt, Option, Some, None, option_map}
use Rattle.s390x_base.specs.AccessFlags.{AccessFlags}
use Rattle.s390x_base.specs.declared.error.EmitError.{EmitError}
use Rattle.s390x_base.specs.declared.error.EmitError.TheVariants.{BadRegister, ScratchConflict, OffsetOutOfRange}
use Rattle.s390x_base.specs.declared.regs.Reg.{Reg}
use Rattle.s390x_inst.specs.declared.args.MemArg.{MemArg}
use Rattle.s390x_inst.specs.declared.args.MemArg.TheVariants.{BXD12, Label, Constant, Symbol}
use Rattle.s390x_inst.specs.declared.inst.Inst.{Inst}
use Rattle.s390x_inst.specs.declared.inst.Inst.TheVariants.{Mov64SImm32, LoadAddr}
use Rattle.s390x_typed_steps.specs.MachineInstruction.{bytes_of}
use Rattle.s390x_typed_steps.specs.Operands.{Finalized, finalized_operand, with_long_displacement, has_form, needs_address, is_relative, scratch, loses_base, offset_fits, operand_general, fits_32}
use Rattle.s390x_typed_steps.specs.Causes.{Declared, first_emit_cause, unless, is_helped, addend_fits, target_cause, memory_cause}
use Rattle.s390x_typed_steps.specs.Memory.{StorageForm, MemoryInstruction, type_of, storage_row}
use Rattle.s390x_address.specs.declared.lowering.Lowering.{Lowering}

-- the helper that loads an offset, where there is one
abbrev pub far_helper : Option ℤ → List Inst
far_helper None = []
far_helper (Some off) = Mov64SImm32 scratch off ∷ []

-- the helper that loads an address, where there is one
abbrev pub address_helper : Option MemArg → List Inst
address_helper None = []
address_helper (Some mem) = LoadAddr scratch mem ∷ []

-- the helpers and the operand that a lowering stands for
abbrev pub finalized_of : Lowering → Finalized
finalized_of p = record { helpers = far_helper p.offset_load ++ address_helper p.address_load; operand = p.operand }

-- the causes of an offset: it is loaded over its base, or doesn't fit 32 bits
abbrev pub offset_cause : MemArg → Option EmitError
offset_cause m = first_emit_cause (unless (not (loses_base m)) ScratchConflict) (unless (offset_fits m) OffsetOutOfRange)

-- the operand's label is a block's, its constant is declared
abbrev pub is_bound_operand : Declared → MemArg → Bool
is_bound_operand D (Label target) = nat_lt target.0 D.blocks
is_bound_operand D (Constant c) = nat_lt c.0 (length D.aligns)
is_bound_operand D m = true

-- an operand can stand in an instruction: so it is, and its registers are real Int ones
abbrev pub may_stand : Declared → MemArg → Bool
may_stand D m = operand_general m && is_bound_operand D m

-- the operand whose address is loaded can, where there is one
abbrev pub address_stands : Declared → Option MemArg → Bool
address_stands D None = true
address_stands D (Some mem) = may_stand D mem

-- those of a lowering can
abbrev pub lowering_stands : Declared → Lowering → Bool
lowering_stands D p = address_stands D p.address_load && may_stand D p.operand

-- the causes behind those of the rows, the registers and the operand: %r1 is read behind a helper, an addend doesn't fit 32 bits, the place that is named
abbrev pub lowered_cause : Declared → MemoryInstruction → Finalized → Option EmitError
lowered_cause D x f =
    first_emit_cause (first_emit_cause (unless (not (x.reads_scratch && is_helped f.helpers)) ScratchConflict) (unless (addend_fits x.operand) OffsetOutOfRange)) (target_cause D x)

-- an instruction whose access is behind these helpers, by the row that has this code; only its registers may refuse it
abbrev pub IsBehind : MemoryInstruction → List Inst → List ℕ → Type 0
IsBehind x helpers code =
    let f = finalized_operand (type_of x.form x.accesses) x.operand in
    (f.helpers ≡ helpers) × (is_relative f.operand ≡ false) × (option_map bytes_of (storage_row x.form f.operand) ≡ Some code)
    × ((D : Declared) → memory_cause D x ≡ unless (x.operands_valid && operand_general x.operand) BadRegister)

-- behind none
abbrev pub IsPlain : MemoryInstruction → List ℕ → Type 0
IsPlain x code = IsBehind x [] code

-- the operand at a base and the index %r1, with the displacement of the rows
abbrev pub indexed_operand : StorageForm → (accesses : Bool) → Reg → AccessFlags → MemArg
indexed_operand form accesses base flags = with_long_displacement (type_of form accesses) (BXD12 base scratch 0 flags)

-- the rows have a form for it, and this code there
abbrev pub IsIndexed : StorageForm → (accesses : Bool) → Reg → AccessFlags → List ℕ → Type 0
IsIndexed form accesses base flags code =
    (has_form (type_of form accesses) (BXD12 base scratch 0 flags) ≡ true) × (needs_address (type_of form accesses) (BXD12 base scratch 0 flags) ≡ false)
    × (is_relative (indexed_operand form accesses base flags) ≡ false) × (option_map bytes_of (storage_row form (indexed_operand form accesses base flags)) ≡ Some code)

-- a symbol plus an offset which, with 2 added for the place of its field, fits the addend of a relocation
abbrev pub is_linkable : MemArg → Bool
is_linkable (Symbol name offset flags) = fits_32 (offset +ℤ pos 2)
is_linkable m = false
