-- An instruction whose operand has a displacement of its own that its rows take is behind no helper, and only its registers may refuse it.
use Rattle.std.proofs.Common.{◌≡◌, ℕ, ℤ, pos, List, [], ◌∷◌, ◌++◌, Bool, true, false, cond, not, ◌&&◌, ◌||◌, Option, None, Some, option_map, IfSome, refl, sym, ap, subst, ◌∙◌}
use Rattle.std.proofs.lemmas.Bool.{and_right, or_right}
use Rattle.s390x_base.specs.Regs.{number_of}
use Rattle.s390x_base.specs.declared.error.EmitError.{EmitError}
use Rattle.s390x_base.specs.declared.error.EmitError.TheVariants.{BadOperator, BadRegister, ScratchConflict, OffsetOutOfRange}
use Rattle.s390x_base.specs.AccessFlags.{AccessFlags}
use Rattle.s390x_base.specs.declared.regs.Reg.{Reg}
use Rattle.s390x_inst.specs.declared.args.MemArg.TheVariants.{BXD12, BXD20}
use Rattle.s390x_inst.specs.declared.inst.Inst.TheVariants.{LoadAddr}
use Rattle.s390x_typed_steps.specs.Causes.{first_emit_cause, unless}
use Rattle.s390x_typed_steps.specs.General.{is_general, low_displacement, low_12}
use Rattle.s390x_typed_steps.specs.MachineInstruction.{bytes_of, rx, rxy, vrx}
use Rattle.s390x_typed_steps.specs.Memory.{StorageForm, RxForm, VrxForm, type_of, storage_row}
use Rattle.s390x_typed_steps.specs.Operands.{Finalized, scratch, no_register, is_relative, is_helped, with_widened, with_long_displacement, finalized_operand, has_form, needs_address}
use Rattle.s390x_typed_steps.proofs.Causes.{first_none}
use Rattle.s390x_address.specs.Lowerings.{IsPlain}
use Rattle.s390x_address.specs.Rows.{storage_form_of}
use Rattle.s390x_address.specs.declared.rows.StorageRows.{StorageRows}
use Rattle.s390x_address.specs.declared.rows.StorageRows.TheVariants.{OneRegister, Vector}

short : (form : StorageForm) (base index : Reg) (disp : ℕ) (flags : AccessFlags) (accesses operands_valid reads_scratch : Bool) (code : List ℕ) →
    has_form (type_of form accesses) (BXD12 base index disp flags) ≡ true → needs_address (type_of form accesses) (BXD12 base index disp flags) ≡ false →
    is_relative (with_long_displacement (type_of form accesses) (BXD12 base index disp flags)) ≡ false →
    option_map bytes_of (storage_row form (with_long_displacement (type_of form accesses) (BXD12 base index disp flags))) ≡ Some code →
    IsPlain (record { form = form; operand = BXD12 base index disp flags; accesses = accesses; operands_valid = operands_valid; reads_scratch = reads_scratch }) code
short form base index disp flags accesses operands_valid reads_scratch code has direct absolute row =
    let mi = type_of form accesses in
    let alone : Finalized = record { helpers = []; operand = BXD12 base index disp flags } in
    let loaded : Finalized = record { helpers = [] ++ LoadAddr scratch (BXD12 base index disp flags) ∷ []; operand = BXD12 scratch no_register 0 flags } in
    let lowered : finalized_operand mi (BXD12 base index disp flags) ≡ with_widened mi alone = ap (λ t. with_widened mi (cond t loaded alone)) direct in
    let helpers = (finalized_operand mi (BXD12 base index disp flags)).helpers in
    let registers = unless (operands_valid && (is_general base && is_general index)) BadRegister in
    let late : Bool → Option EmitError = λ lost. first_emit_cause (first_emit_cause (unless (not lost) ScratchConflict) (unless true OffsetOutOfRange)) None in (
      ap (λ (f : Finalized). f.helpers) lowered,
      ap (λ (f : Finalized). is_relative f.operand) lowered ∙ absolute,
      ap (λ (f : Finalized). option_map bytes_of (storage_row form f.operand)) lowered ∙ row,
      λ D. ap (λ t. first_emit_cause (unless t BadOperator) (first_emit_cause registers (late (reads_scratch && is_helped helpers)))) has
          ∙ ap (λ t. first_emit_cause registers (late t)) (ap (λ (f : Finalized). reads_scratch && is_helped f.helpers) lowered ∙ and_right reads_scratch false refl)
          ∙ first_none registers,
    )

long : (form : StorageForm) (base index : Reg) (disp : ℤ) (flags : AccessFlags) (accesses operands_valid reads_scratch : Bool) (code : List ℕ) →
    has_form (type_of form accesses) (BXD20 base index disp flags) ≡ true → needs_address (type_of form accesses) (BXD20 base index disp flags) ≡ false →
    option_map bytes_of (storage_row form (BXD20 base index disp flags)) ≡ Some code →
    IsPlain (record { form = form; operand = BXD20 base index disp flags; accesses = accesses; operands_valid = operands_valid; reads_scratch = reads_scratch }) code
long form base index disp flags accesses operands_valid reads_scratch code has direct row =
    let mi = type_of form accesses in
    let alone : Finalized = record { helpers = []; operand = BXD20 base index disp flags } in
    let loaded : Finalized = record { helpers = [] ++ LoadAddr scratch (BXD20 base index disp flags) ∷ []; operand = BXD12 scratch no_register 0 flags } in
    let lowered : finalized_operand mi (BXD20 base index disp flags) ≡ alone = ap (λ t. with_widened mi (cond t loaded alone)) direct in
    let helpers = (finalized_operand mi (BXD20 base index disp flags)).helpers in
    let registers = unless (operands_valid && (is_general base && is_general index)) BadRegister in
    let late : Bool → Option EmitError = λ lost. first_emit_cause (first_emit_cause (unless (not lost) ScratchConflict) (unless true OffsetOutOfRange)) None in (
      ap (λ (f : Finalized). f.helpers) lowered,
      ap (λ (f : Finalized). is_relative f.operand) lowered,
      ap (λ (f : Finalized). option_map bytes_of (storage_row form f.operand)) lowered ∙ row,
      λ D. ap (λ t. first_emit_cause (unless t BadOperator) (first_emit_cause registers (late (reads_scratch && is_helped helpers)))) has
          ∙ ap (λ t. first_emit_cause registers (late t)) (ap (λ (f : Finalized). reads_scratch && is_helped f.helpers) lowered ∙ and_right reads_scratch false refl)
          ∙ first_none registers,
    )

-- ---- what the code's rows say

pub short_standing : (found : Option (List ℕ)) (register base index : Reg) (short_opcode long_opcode ril_opcode : Option ℕ) (opcode disp : ℕ) (flags : AccessFlags) (accesses operands_valid reads_scratch : Bool) → short_opcode ≡ Some opcode →
    IfSome found (λ code. code ≡ bytes_of (rx opcode (number_of register) (number_of base) (number_of index) (low_12 disp))) →
    IfSome found (λ code. IsPlain (record { form = RxForm (number_of register) short_opcode long_opcode ril_opcode; operand = BXD12 base index disp flags; accesses = accesses; operands_valid = operands_valid; reads_scratch = reads_scratch }) code)
short_standing None register base index short_opcode long_opcode ril_opcode opcode disp flags accesses operands_valid reads_scratch some same = tt
short_standing (Some code) register base index short_opcode long_opcode ril_opcode opcode disp flags accesses operands_valid reads_scratch some same =
    subst (λ o. IsPlain (record { form = RxForm (number_of register) o long_opcode ril_opcode; operand = BXD12 base index disp flags; accesses = accesses; operands_valid = operands_valid; reads_scratch = reads_scratch }) code) (sym some)
    (short (RxForm (number_of register) (Some opcode) long_opcode ril_opcode) base index disp flags accesses operands_valid reads_scratch code refl refl refl (ap Some (sym same)))

pub widened_standing : (found : Option (List ℕ)) (register base index : Reg) (long_opcode ril_opcode : Option ℕ) (opcode disp : ℕ) (wide : ℤ) (flags : AccessFlags) (accesses operands_valid reads_scratch : Bool) → long_opcode ≡ Some opcode → wide ≡ pos disp →
    IfSome found (λ code. code ≡ bytes_of (rxy opcode (number_of register) (number_of base) (number_of index) (low_displacement wide))) →
    IfSome found (λ code. IsPlain (record { form = RxForm (number_of register) None long_opcode ril_opcode; operand = BXD12 base index disp flags; accesses = accesses; operands_valid = operands_valid; reads_scratch = reads_scratch }) code)
widened_standing None register base index long_opcode ril_opcode opcode disp wide flags accesses operands_valid reads_scratch some value same = tt
widened_standing (Some code) register base index long_opcode ril_opcode opcode disp wide flags accesses operands_valid reads_scratch some value same =
    let row : code ≡ bytes_of (rxy opcode (number_of register) (number_of base) (number_of index) (low_displacement (pos disp))) = same ∙ ap (λ z. bytes_of (rxy opcode (number_of register) (number_of base) (number_of index) (low_displacement z))) value in
    subst (λ o. IsPlain (record { form = RxForm (number_of register) None o ril_opcode; operand = BXD12 base index disp flags; accesses = accesses; operands_valid = operands_valid; reads_scratch = reads_scratch }) code) (sym some)
    (short (RxForm (number_of register) None (Some opcode) ril_opcode) base index disp flags accesses operands_valid reads_scratch code refl refl refl (ap Some (sym row)))

pub vector_standing : (found : Option (List ℕ)) (rows : StorageRows) (register base index : Reg) (opcode mask disp : ℕ) (flags : AccessFlags) (accesses operands_valid reads_scratch : Bool) → rows ≡ Vector register opcode mask →
    IfSome found (λ code. code ≡ bytes_of (vrx opcode (number_of register) (number_of base) (number_of index) mask (low_12 disp))) →
    IfSome found (λ code. IsPlain (record { form = storage_form_of rows; operand = BXD12 base index disp flags; accesses = accesses; operands_valid = operands_valid; reads_scratch = reads_scratch }) code)
vector_standing None rows register base index opcode mask disp flags accesses operands_valid reads_scratch is same = tt
vector_standing (Some code) rows register base index opcode mask disp flags accesses operands_valid reads_scratch is same =
    subst (λ f. IsPlain (record { form = f; operand = BXD12 base index disp flags; accesses = accesses; operands_valid = operands_valid; reads_scratch = reads_scratch }) code) (sym (ap storage_form_of is))
    (short (VrxForm (number_of register) opcode mask) base index disp flags accesses operands_valid reads_scratch code refl refl refl (ap Some (sym same)))

pub long_standing : (found : Option (List ℕ)) (rows : StorageRows) (register base index : Reg) (short_opcode long_opcode ril_opcode : Option ℕ) (opcode : ℕ) (disp : ℤ) (flags : AccessFlags) (accesses operands_valid reads_scratch : Bool) → rows ≡ OneRegister register short_opcode long_opcode ril_opcode → long_opcode ≡ Some opcode →
    IfSome found (λ code. code ≡ bytes_of (rxy opcode (number_of register) (number_of base) (number_of index) (low_displacement disp))) →
    IfSome found (λ code. IsPlain (record { form = storage_form_of rows; operand = BXD20 base index disp flags; accesses = accesses; operands_valid = operands_valid; reads_scratch = reads_scratch }) code)
long_standing None rows register base index short_opcode long_opcode ril_opcode opcode disp flags accesses operands_valid reads_scratch is some same = tt
long_standing (Some code) rows register base index short_opcode long_opcode ril_opcode opcode disp flags accesses operands_valid reads_scratch is some same =
    let form = RxForm (number_of register) short_opcode (Some opcode) ril_opcode in
    let mi = type_of form accesses in
    let has : has_form mi (BXD20 base index disp flags) ≡ true = ap (λ t. t || (is_relative (BXD20 base index disp flags) && true)) (or_right mi.have_d12 true refl) in
    subst (λ f. IsPlain (record { form = f; operand = BXD20 base index disp flags; accesses = accesses; operands_valid = operands_valid; reads_scratch = reads_scratch }) code) (sym (ap storage_form_of is ∙ ap (λ o. RxForm (number_of register) short_opcode o ril_opcode) some))
    (long form base index disp flags accesses operands_valid reads_scratch code has refl (ap Some (sym same)))
