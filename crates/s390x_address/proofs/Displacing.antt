-- An instruction whose offset a displacement of its rows holds is behind no helper, and only its registers may refuse it.
use Rattle.std.proofs.Common.{◌≡◌, ℕ, ◌+◌, ℤ, pos, negsuc, unsigned_abs, List, [], ◌∷◌, ◌++◌, length, Bool, true, false, cond, not, ◌&&◌, ◌||◌, Option, None, Some, option_map, IfSome, refl, sym, ap, subst, ◌∙◌, arith}
use Rattle.std.proofs.lemmas.Bool.{and_right, or_right}
use Rattle.s390x_base.specs.Regs.{number_of}
use Rattle.s390x_base.specs.declared.error.EmitError.{EmitError}
use Rattle.s390x_base.specs.declared.error.EmitError.TheVariants.{BadOperator, BadRegister, ScratchConflict, OffsetOutOfRange}
use Rattle.s390x_base.specs.AccessFlags.{AccessFlags}
use Rattle.s390x_base.specs.declared.regs.Reg.{Reg}
use Rattle.s390x_base.specs.declared.trap.TrapKind.{TrapKind}
use Rattle.s390x_inst.specs.declared.args.MemArg.TheVariants.{BXD12, BXD20, RegOffset}
use Rattle.s390x_inst.specs.declared.inst.Inst.{Inst}
use Rattle.s390x_inst.specs.declared.inst.Inst.TheVariants.{Mov64SImm32, LoadAddr}
use Rattle.s390x_format.specs.Formats.{length_of}
use Rattle.s390x_typed_steps.specs.Causes.{Declared, first_emit_cause, unless, is_helped, memory_cause}
use Rattle.s390x_typed_steps.specs.General.{is_general, low_displacement, low_12, low_halfword}
use Rattle.s390x_typed_steps.specs.MachineInstruction.{MachineInstruction, bytes_of, rx, rxy, si, siy, sil, vrx}
use Rattle.s390x_typed_steps.specs.Memory.{StorageForm, RxForm, SiForm, SilForm, VrxForm, type_of, storage_row, of_opcode}
use Rattle.s390x_typed_steps.specs.Operands.{Finalized, scratch, no_register, is_numbered, is_relative, is_far, fits_12, fits_20, fits_32, with_displacement, with_address_loaded, with_widened, finalized_operand, has_form}
use Rattle.s390x_typed_steps.specs.Parts.{helpers_parts, relative_parts, access_parts, operand_parts, finalized_parts, parts_size}
use Rattle.s390x_typed_steps.proofs.Causes.{first_none}
use Rattle.s390x_address.specs.Lowerings.{IsPlain, IsBehind, IsIndexed}
use Rattle.s390x_address.specs.Rows.{storage_form_of}
use Rattle.s390x_address.specs.declared.rows.StorageRows.{StorageRows}
use Rattle.s390x_address.specs.declared.rows.StorageRows.TheVariants.{OneRegister, Byte, Halfword, Vector}
use Rattle.s390x_address.proofs.OnlyMemory.{length-bytes}
use Rattle.s390x_address.proofs.Refusing.{wider_12, wider_20}

-- an offset that a helper doesn't load and an immediate holds
only_registers : (D : Declared) (form : StorageForm) (base : Reg) (off : ℤ) (flags : AccessFlags) (accesses operands_valid reads_scratch : Bool) →
    has_form (type_of form accesses) (RegOffset base off flags) ≡ true → is_far off ≡ false → fits_32 off ≡ true → (finalized_operand (type_of form accesses) (RegOffset base off flags)).helpers ≡ [] →
    memory_cause D (record { form = form; operand = RegOffset base off flags; accesses = accesses; operands_valid = operands_valid; reads_scratch = reads_scratch }) ≡ unless (operands_valid && is_general base) BadRegister
only_registers D form base off flags accesses operands_valid reads_scratch has near fits alone =
    let registers = unless (operands_valid && is_general base) BadRegister in
    let late : Bool → Bool → Bool → Option EmitError = λ far helped holds. first_emit_cause (first_emit_cause (unless (not (far || helped)) ScratchConflict) (unless (holds && true) OffsetOutOfRange)) None in
    let numbered = is_numbered 1 base in
    let helpers = (finalized_operand (type_of form accesses) (RegOffset base off flags)).helpers in
    ap (λ t. first_emit_cause (unless t BadOperator) (first_emit_cause registers (late (numbered && is_far off) (reads_scratch && is_helped helpers) (fits_32 off)))) has
    ∙ ap (λ t. first_emit_cause registers (late t (reads_scratch && is_helped helpers) (fits_32 off))) (ap (λ t. numbered && t) near ∙ and_right numbered false refl)
    ∙ ap (λ t. first_emit_cause registers (late false t (fits_32 off))) (ap (λ hs. reads_scratch && is_helped hs) alone ∙ and_right reads_scratch false refl)
    ∙ ap (λ t. first_emit_cause registers (late false false t)) fits
    ∙ first_none registers

-- ---- a displacement of 12 bits

pub short_plain : (register opcode : ℕ) (rxy_opcode ril_opcode : Option ℕ) (base : Reg) (off : ℤ) (flags : AccessFlags) (accesses operands_valid reads_scratch : Bool) (code : List ℕ) →
    fits_12 off ≡ true → code ≡ bytes_of (rx opcode register (number_of base) (number_of no_register) (low_12 (unsigned_abs off))) →
    IsPlain (record { form = RxForm register (Some opcode) rxy_opcode ril_opcode; operand = RegOffset base off flags; accesses = accesses; operands_valid = operands_valid; reads_scratch = reads_scratch }) code
short_plain register opcode rxy_opcode ril_opcode base off flags accesses operands_valid reads_scratch code fits same =
    let form = RxForm register (Some opcode) rxy_opcode ril_opcode in
    let mi = type_of form accesses in
    let short : Finalized = record { helpers = []; operand = BXD12 base no_register (unsigned_abs off) flags } in
    let long : Finalized = record { helpers = []; operand = BXD20 base no_register off flags } in
    let far : Finalized = record { helpers = Mov64SImm32 scratch off ∷ []; operand = BXD12 base scratch 0 flags } in
    let stays : Finalized = record { helpers = []; operand = RegOffset base off flags } in
    let lowered : finalized_operand mi (RegOffset base off flags) ≡ short = ap (λ t. with_widened mi (with_address_loaded mi (cond t short (cond (fits_20 off) long (cond (fits_32 off) far stays))))) fits in
    let near : is_far off ≡ false = ap (λ t. fits_32 off && not t && not (fits_20 off)) fits ∙ ap (λ t. t && not (fits_20 off)) (and_right (fits_32 off) false refl) in
    let alone = ap (λ (f : Finalized). f.helpers) lowered in (
      alone,
      ap (λ (f : Finalized). is_relative f.operand) lowered,
      ap (λ (f : Finalized). option_map bytes_of (storage_row form f.operand)) lowered ∙ ap Some (sym same),
      λ D. only_registers D form base off flags accesses operands_valid reads_scratch refl near (wider_12 off fits) alone,
    )

-- the same by the row of a vector register
pub vector_plain : (register opcode mask : ℕ) (base : Reg) (off : ℤ) (flags : AccessFlags) (accesses operands_valid reads_scratch : Bool) (code : List ℕ) →
    fits_12 off ≡ true → code ≡ bytes_of (vrx opcode register (number_of base) (number_of no_register) mask (low_12 (unsigned_abs off))) →
    IsPlain (record { form = VrxForm register opcode mask; operand = RegOffset base off flags; accesses = accesses; operands_valid = operands_valid; reads_scratch = reads_scratch }) code
vector_plain register opcode mask base off flags accesses operands_valid reads_scratch code fits same =
    let form = VrxForm register opcode mask in
    let mi = type_of form accesses in
    let short : Finalized = record { helpers = []; operand = BXD12 base no_register (unsigned_abs off) flags } in
    let long : Finalized = record { helpers = []; operand = BXD20 base no_register off flags } in
    let far : Finalized = record { helpers = Mov64SImm32 scratch off ∷ []; operand = BXD12 base scratch 0 flags } in
    let stays : Finalized = record { helpers = []; operand = RegOffset base off flags } in
    let lowered : finalized_operand mi (RegOffset base off flags) ≡ short = ap (λ t. with_widened mi (with_address_loaded mi (cond t short (cond (fits_20 off) long (cond (fits_32 off) far stays))))) fits in
    let near : is_far off ≡ false = ap (λ t. fits_32 off && not t && not (fits_20 off)) fits ∙ ap (λ t. t && not (fits_20 off)) (and_right (fits_32 off) false refl) in
    let alone = ap (λ (f : Finalized). f.helpers) lowered in (
      alone,
      ap (λ (f : Finalized). is_relative f.operand) lowered,
      ap (λ (f : Finalized). option_map bytes_of (storage_row form f.operand)) lowered ∙ ap Some (sym same),
      λ D. only_registers D form base off flags accesses operands_valid reads_scratch refl near (wider_12 off fits) alone,
    )

-- the same by the rows of an immediate
short_alone : (form : StorageForm) (base : Reg) (off : ℤ) (flags : AccessFlags) (accesses operands_valid reads_scratch : Bool) (code : List ℕ) →
    fits_12 off ≡ true → has_form (type_of form accesses) (RegOffset base off flags) ≡ true →
    with_widened (type_of form accesses) (with_address_loaded (type_of form accesses) (record { helpers = []; operand = BXD12 base no_register (unsigned_abs off) flags })) ≡ record { helpers = []; operand = BXD12 base no_register (unsigned_abs off) flags } →
    option_map bytes_of (storage_row form (BXD12 base no_register (unsigned_abs off) flags)) ≡ Some code →
    IsPlain (record { form = form; operand = RegOffset base off flags; accesses = accesses; operands_valid = operands_valid; reads_scratch = reads_scratch }) code
short_alone form base off flags accesses operands_valid reads_scratch code fits has stands same =
    let mi = type_of form accesses in
    let short : Finalized = record { helpers = []; operand = BXD12 base no_register (unsigned_abs off) flags } in
    let long : Finalized = record { helpers = []; operand = BXD20 base no_register off flags } in
    let far : Finalized = record { helpers = Mov64SImm32 scratch off ∷ []; operand = BXD12 base scratch 0 flags } in
    let stays : Finalized = record { helpers = []; operand = RegOffset base off flags } in
    let lowered : finalized_operand mi (RegOffset base off flags) ≡ short = ap (λ t. with_widened mi (with_address_loaded mi (cond t short (cond (fits_20 off) long (cond (fits_32 off) far stays))))) fits ∙ stands in
    let near : is_far off ≡ false = ap (λ t. fits_32 off && not t && not (fits_20 off)) fits ∙ ap (λ t. t && not (fits_20 off)) (and_right (fits_32 off) false refl) in
    let alone = ap (λ (f : Finalized). f.helpers) lowered in (
      alone,
      ap (λ (f : Finalized). is_relative f.operand) lowered,
      ap (λ (f : Finalized). option_map bytes_of (storage_row form f.operand)) lowered ∙ same,
      λ D. only_registers D form base off flags accesses operands_valid reads_scratch has near (wider_12 off fits) alone,
    )

-- ---- one of 20 bits

-- by the row of 20 bits of an immediate of 8 bits, where the one of 12 bits doesn't hold it
long_byte_plain : (imm si_opcode siy_opcode : ℕ) (base : Reg) (off : ℤ) (flags : AccessFlags) (accesses operands_valid reads_scratch : Bool) (code : List ℕ) →
    fits_12 off ≡ false → fits_20 off ≡ true → code ≡ bytes_of (siy siy_opcode (number_of base) (low_displacement off) imm) →
    IsPlain (record { form = SiForm imm si_opcode siy_opcode; operand = RegOffset base off flags; accesses = accesses; operands_valid = operands_valid; reads_scratch = reads_scratch }) code
long_byte_plain imm si_opcode siy_opcode base off flags accesses operands_valid reads_scratch code unfit fits same =
    let form = SiForm imm si_opcode siy_opcode in
    let mi = type_of form accesses in
    let short : Finalized = record { helpers = []; operand = BXD12 base no_register (unsigned_abs off) flags } in
    let long : Finalized = record { helpers = []; operand = BXD20 base no_register off flags } in
    let far : Finalized = record { helpers = Mov64SImm32 scratch off ∷ []; operand = BXD12 base scratch 0 flags } in
    let stays : Finalized = record { helpers = []; operand = RegOffset base off flags } in
    let others = cond (fits_32 off) far stays in
    let lowered : finalized_operand mi (RegOffset base off flags) ≡ long =
    ap (λ t. with_widened mi (with_address_loaded mi (cond t short (cond (fits_20 off) long others)))) unfit
    ∙ ap (λ t. with_widened mi (with_address_loaded mi (cond t long others))) fits in
    let near : is_far off ≡ false = ap (λ t. fits_32 off && not (fits_12 off) && not t) fits ∙ and_right (fits_32 off && not (fits_12 off)) false refl in
    let alone = ap (λ (f : Finalized). f.helpers) lowered in (
      alone,
      ap (λ (f : Finalized). is_relative f.operand) lowered,
      ap (λ (f : Finalized). option_map bytes_of (storage_row form f.operand)) lowered ∙ ap Some (sym same),
      λ D. only_registers D form base off flags accesses operands_valid reads_scratch refl near (wider_20 off fits) alone,
    )

not_negative : (off : ℤ) → fits_12 off ≡ true → pos (unsigned_abs off) ≡ off
not_negative (pos n) h = refl
not_negative (negsuc n) h = absurd (cc)

long_chosen : (register opcode : ℕ) (rx_opcode ril_opcode : Option ℕ) (accesses : Bool) (base : Reg) (off : ℤ) (flags : AccessFlags) (others : Finalized) (t : Bool) →
    (t ≡ true → rx_opcode ≡ None) → (t ≡ true → pos (unsigned_abs off) ≡ off) →
    with_widened (type_of (RxForm register rx_opcode (Some opcode) ril_opcode) accesses) (with_address_loaded (type_of (RxForm register rx_opcode (Some opcode) ril_opcode) accesses) (cond t (record { helpers = []; operand = BXD12 base no_register (unsigned_abs off) flags }) (cond true (record { helpers = []; operand = BXD20 base no_register off flags }) others))) ≡ record { helpers = []; operand = BXD20 base no_register off flags }
long_chosen register opcode rx_opcode ril_opcode accesses base off flags others true none same =
    let short : Finalized = record { helpers = []; operand = BXD12 base no_register (unsigned_abs off) flags } in
    ap (λ o. with_widened (type_of (RxForm register o (Some opcode) ril_opcode) accesses) (with_address_loaded (type_of (RxForm register o (Some opcode) ril_opcode) accesses) short)) (none refl)
    ∙ ap (λ z. record { helpers = []; operand = BXD20 base no_register z flags }) (same refl)
long_chosen register opcode rx_opcode ril_opcode accesses base off flags others false none same = refl

-- by the rows of 20 bits, where there is none of 12 bits or the offset doesn't fit it
pub long_plain : (register : ℕ) (rx_opcode rxy_opcode ril_opcode : Option ℕ) (base : Reg) (off : ℤ) (flags : AccessFlags) (accesses operands_valid reads_scratch : Bool) (code : List ℕ) →
    (fits_12 off ≡ true → rx_opcode ≡ None) → fits_20 off ≡ true → option_map bytes_of (of_opcode (λ o. rxy o register (number_of base) (number_of no_register) (low_displacement off)) rxy_opcode) ≡ Some code →
    IsPlain (record { form = RxForm register rx_opcode rxy_opcode ril_opcode; operand = RegOffset base off flags; accesses = accesses; operands_valid = operands_valid; reads_scratch = reads_scratch }) code
long_plain register rx_opcode None ril_opcode base off flags accesses operands_valid reads_scratch code none fits same = absurd (cc)
long_plain register rx_opcode (Some opcode) ril_opcode base off flags accesses operands_valid reads_scratch code none fits same =
    let form = RxForm register rx_opcode (Some opcode) ril_opcode in
    let mi = type_of form accesses in
    let short : Finalized = record { helpers = []; operand = BXD12 base no_register (unsigned_abs off) flags } in
    let long : Finalized = record { helpers = []; operand = BXD20 base no_register off flags } in
    let far : Finalized = record { helpers = Mov64SImm32 scratch off ∷ []; operand = BXD12 base scratch 0 flags } in
    let stays : Finalized = record { helpers = []; operand = RegOffset base off flags } in
    let others = cond (fits_32 off) far stays in
    let lowered : finalized_operand mi (RegOffset base off flags) ≡ long =
    ap (λ t. with_widened mi (with_address_loaded mi (cond (fits_12 off) short (cond t long others)))) fits
    ∙ long_chosen register opcode rx_opcode ril_opcode accesses base off flags others (fits_12 off) none (not_negative off) in
    let near : is_far off ≡ false = ap (λ t. fits_32 off && not (fits_12 off) && not t) fits ∙ and_right (fits_32 off && not (fits_12 off)) false refl in
    let alone = ap (λ (f : Finalized). f.helpers) lowered in
    let has : has_form mi (RegOffset base off flags) ≡ true = ap (λ t. t || (is_relative (RegOffset base off flags) && true)) (or_right mi.have_d12 true refl) in (
      alone,
      ap (λ (f : Finalized). is_relative f.operand) lowered,
      ap (λ (f : Finalized). option_map bytes_of (storage_row form f.operand)) lowered ∙ same,
      λ D. only_registers D form base off flags accesses operands_valid reads_scratch has near (wider_20 off fits) alone,
    )

-- ---- what the code's rows say

-- what is found is the code of the row of format RXY at an offset that its displacement holds
abbrev pub IsLong : Option (List ℕ) → Reg → Option ℕ → Reg → ℤ → Type 0
IsLong found register opcode base off = IfSome found (λ code. (fits_20 off ≡ true) × (option_map bytes_of (of_opcode (λ o. rxy o (number_of register) (number_of base) (number_of no_register) (low_displacement off)) opcode) ≡ Some code))

held : {D : Type 0} (t : Bool) (d e : D) → Some d ≡ cond t (Some e) None → (t ≡ true) × (d ≡ e)
held true d e h = (refl, cc)
held false d e h = absurd (cc)

pub short_rows : (found : Option (List ℕ)) (rows : StorageRows) (register : Reg) (rx_opcode rxy_opcode ril_opcode : Option ℕ) (opcode disp : ℕ) (base : Reg) (off : ℤ) (flags : AccessFlags) (accesses operands_valid reads_scratch : Bool) →
    rows ≡ OneRegister register rx_opcode rxy_opcode ril_opcode → rx_opcode ≡ Some opcode → Some disp ≡ cond (fits_12 off) (Some (unsigned_abs off)) None →
    IfSome found (λ code. code ≡ bytes_of (rx opcode (number_of register) (number_of base) (number_of no_register) (low_12 disp))) →
    IfSome found (λ code. IsPlain (record { form = storage_form_of rows; operand = RegOffset base off flags; accesses = accesses; operands_valid = operands_valid; reads_scratch = reads_scratch }) code)
short_rows None rows register rx_opcode rxy_opcode ril_opcode opcode disp base off flags accesses operands_valid reads_scratch is some fits same = tt
short_rows (Some code) rows register rx_opcode rxy_opcode ril_opcode opcode disp base off flags accesses operands_valid reads_scratch is some fits same =
    let p = held (fits_12 off) disp (unsigned_abs off) fits in
    subst (λ form. IsPlain (record { form = form; operand = RegOffset base off flags; accesses = accesses; operands_valid = operands_valid; reads_scratch = reads_scratch }) code) (sym (ap storage_form_of is ∙ ap (λ o. RxForm (number_of register) o rxy_opcode ril_opcode) some))
    (short_plain (number_of register) opcode rxy_opcode ril_opcode base off flags accesses operands_valid reads_scratch code p.0 (same ∙ ap (λ d. bytes_of (rx opcode (number_of register) (number_of base) (number_of no_register) (low_12 d))) p.1))

pub vector_rows : (found : Option (List ℕ)) (rows : StorageRows) (register : Reg) (opcode mask disp : ℕ) (base : Reg) (off : ℤ) (flags : AccessFlags) (accesses operands_valid reads_scratch : Bool) →
    rows ≡ Vector register opcode mask → Some disp ≡ cond (fits_12 off) (Some (unsigned_abs off)) None →
    IfSome found (λ code. code ≡ bytes_of (vrx opcode (number_of register) (number_of base) (number_of no_register) mask (low_12 disp))) →
    IfSome found (λ code. IsPlain (record { form = storage_form_of rows; operand = RegOffset base off flags; accesses = accesses; operands_valid = operands_valid; reads_scratch = reads_scratch }) code)
vector_rows None rows register opcode mask disp base off flags accesses operands_valid reads_scratch is fits same = tt
vector_rows (Some code) rows register opcode mask disp base off flags accesses operands_valid reads_scratch is fits same =
    let p = held (fits_12 off) disp (unsigned_abs off) fits in
    subst (λ form. IsPlain (record { form = form; operand = RegOffset base off flags; accesses = accesses; operands_valid = operands_valid; reads_scratch = reads_scratch }) code) (sym (ap storage_form_of is))
    (vector_plain (number_of register) opcode mask base off flags accesses operands_valid reads_scratch code p.0 (same ∙ ap (λ d. bytes_of (vrx opcode (number_of register) (number_of base) (number_of no_register) mask (low_12 d))) p.1))

pub short_byte_rows : (found : Option (List ℕ)) (rows : StorageRows) (imm si_opcode siy_opcode disp : ℕ) (base : Reg) (off : ℤ) (flags : AccessFlags) (accesses operands_valid reads_scratch : Bool) →
    rows ≡ Byte imm si_opcode siy_opcode → Some disp ≡ cond (fits_12 off) (Some (unsigned_abs off)) None →
    IfSome found (λ code. code ≡ bytes_of (si si_opcode (number_of base) (low_12 disp) imm)) →
    IfSome found (λ code. IsPlain (record { form = storage_form_of rows; operand = RegOffset base off flags; accesses = accesses; operands_valid = operands_valid; reads_scratch = reads_scratch }) code)
short_byte_rows None rows imm si_opcode siy_opcode disp base off flags accesses operands_valid reads_scratch is fits same = tt
short_byte_rows (Some code) rows imm si_opcode siy_opcode disp base off flags accesses operands_valid reads_scratch is fits same =
    let p = held (fits_12 off) disp (unsigned_abs off) fits in
    subst (λ form. IsPlain (record { form = form; operand = RegOffset base off flags; accesses = accesses; operands_valid = operands_valid; reads_scratch = reads_scratch }) code) (sym (ap storage_form_of is))
    (short_alone (SiForm imm si_opcode siy_opcode) base off flags accesses operands_valid reads_scratch code p.0 refl refl (ap Some (sym (same ∙ ap (λ d. bytes_of (si si_opcode (number_of base) (low_12 d) imm)) p.1))))

unheld : {D : Type 0} (t : Bool) (d : D) → None ≡ cond t (Some d) None → t ≡ false
unheld true d h = absurd (cc)
unheld false d h = refl

pub long_byte_rows : (found : Option (List ℕ)) (rows : StorageRows) (imm si_opcode siy_opcode : ℕ) (disp : ℤ) (base : Reg) (off : ℤ) (flags : AccessFlags) (accesses operands_valid reads_scratch : Bool) →
    rows ≡ Byte imm si_opcode siy_opcode → None ≡ cond (fits_12 off) (Some (unsigned_abs off)) None → Some disp ≡ cond (fits_20 off) (Some off) None →
    IfSome found (λ code. code ≡ bytes_of (siy siy_opcode (number_of base) (low_displacement disp) imm)) →
    IfSome found (λ code. IsPlain (record { form = storage_form_of rows; operand = RegOffset base off flags; accesses = accesses; operands_valid = operands_valid; reads_scratch = reads_scratch }) code)
long_byte_rows None rows imm si_opcode siy_opcode disp base off flags accesses operands_valid reads_scratch is unfit fits same = tt
long_byte_rows (Some code) rows imm si_opcode siy_opcode disp base off flags accesses operands_valid reads_scratch is unfit fits same =
    let p = held (fits_20 off) disp off fits in
    subst (λ form. IsPlain (record { form = form; operand = RegOffset base off flags; accesses = accesses; operands_valid = operands_valid; reads_scratch = reads_scratch }) code) (sym (ap storage_form_of is))
    (long_byte_plain imm si_opcode siy_opcode base off flags accesses operands_valid reads_scratch code (unheld (fits_12 off) (unsigned_abs off) unfit) p.0 (same ∙ ap (λ z. bytes_of (siy siy_opcode (number_of base) (low_displacement z) imm)) p.1))

pub halfword_rows : (found : Option (List ℕ)) (rows : StorageRows) (imm : ℤ) (opcode disp : ℕ) (base : Reg) (off : ℤ) (flags : AccessFlags) (accesses operands_valid reads_scratch : Bool) →
    rows ≡ Halfword imm opcode → Some disp ≡ cond (fits_12 off) (Some (unsigned_abs off)) None →
    IfSome found (λ code. code ≡ bytes_of (sil opcode (number_of base) (low_12 disp) (low_halfword imm))) →
    IfSome found (λ code. IsPlain (record { form = storage_form_of rows; operand = RegOffset base off flags; accesses = accesses; operands_valid = operands_valid; reads_scratch = reads_scratch }) code)
halfword_rows None rows imm opcode disp base off flags accesses operands_valid reads_scratch is fits same = tt
halfword_rows (Some code) rows imm opcode disp base off flags accesses operands_valid reads_scratch is fits same =
    let p = held (fits_12 off) disp (unsigned_abs off) fits in
    subst (λ form. IsPlain (record { form = form; operand = RegOffset base off flags; accesses = accesses; operands_valid = operands_valid; reads_scratch = reads_scratch }) code) (sym (ap storage_form_of is))
    (short_alone (SilForm (low_halfword imm) opcode) base off flags accesses operands_valid reads_scratch code p.0 refl refl (ap Some (sym (same ∙ ap (λ d. bytes_of (sil opcode (number_of base) (low_12 d) (low_halfword imm))) p.1))))

pub long_found : (found : Option (List ℕ)) (rxy_opcode : Option ℕ) (opcode : ℕ) (register base : Reg) (disp off : ℤ) → rxy_opcode ≡ Some opcode → Some disp ≡ cond (fits_20 off) (Some off) None →
    IfSome found (λ code. code ≡ bytes_of (rxy opcode (number_of register) (number_of base) (number_of no_register) (low_displacement disp))) →
    IsLong found register rxy_opcode base off
long_found None rxy_opcode opcode register base disp off some fits same = tt
long_found (Some code) rxy_opcode opcode register base disp off some fits same =
    let p = held (fits_20 off) disp off fits in (
      p.0,
      ap (λ q. option_map bytes_of (of_opcode (λ o. rxy o (number_of register) (number_of base) (number_of no_register) (low_displacement off)) q)) some
          ∙ ap Some (ap (λ z. bytes_of (rxy opcode (number_of register) (number_of base) (number_of no_register) (low_displacement z))) (sym p.1) ∙ sym same),
    )

pub long_rows : (found : Option (List ℕ)) (rows : StorageRows) (register : Reg) (rx_opcode rxy_opcode ril_opcode : Option ℕ) (base : Reg) (off : ℤ) (flags : AccessFlags) (accesses operands_valid reads_scratch : Bool) →
    rows ≡ OneRegister register rx_opcode rxy_opcode ril_opcode → (fits_12 off ≡ true → rx_opcode ≡ None) →
    IsLong found register rxy_opcode base off →
    IfSome found (λ code. IsPlain (record { form = storage_form_of rows; operand = RegOffset base off flags; accesses = accesses; operands_valid = operands_valid; reads_scratch = reads_scratch }) code)
long_rows None rows register rx_opcode rxy_opcode ril_opcode base off flags accesses operands_valid reads_scratch is none same = tt
long_rows (Some code) rows register rx_opcode rxy_opcode ril_opcode base off flags accesses operands_valid reads_scratch is none same =
    subst (λ form. IsPlain (record { form = form; operand = RegOffset base off flags; accesses = accesses; operands_valid = operands_valid; reads_scratch = reads_scratch }) code) (sym (ap storage_form_of is))
    (long_plain (number_of register) rx_opcode rxy_opcode ril_opcode base off flags accesses operands_valid reads_scratch code none same.0 same.1)

pub unfit : (t : Bool) (d : ℕ) (o : Option ℕ) → None ≡ cond t (Some d) None → t ≡ true → o ≡ None
unfit true d o h e = absurd (cc)
unfit false d o h e = absurd (cc)

-- ---- an offset that a helper loads

far_tests : (a b c : Bool) → (a && not b && not c) ≡ true → (a ≡ true) × (b ≡ false) × (c ≡ false)
far_tests true true c h = absurd (cc)
far_tests true false true h = absurd (cc)
far_tests true false false h = (refl, refl, refl)
far_tests false b c h = absurd (cc)

far_behind : (form : StorageForm) (base : Reg) (off : ℤ) (flags : AccessFlags) (accesses operands_valid : Bool) (code : List ℕ) → is_far off ≡ true → is_numbered 1 base ≡ false → IsIndexed form accesses base flags code →
    IsBehind (record { form = form; operand = RegOffset base off flags; accesses = accesses; operands_valid = operands_valid; reads_scratch = false }) (Mov64SImm32 scratch off ∷ []) code
far_behind form base off flags accesses operands_valid code far other indexed =
    let mi = type_of form accesses in
    let helpers = Mov64SImm32 scratch off ∷ [] in
    let short : Finalized = record { helpers = []; operand = BXD12 base no_register (unsigned_abs off) flags } in
    let long : Finalized = record { helpers = []; operand = BXD20 base no_register off flags } in
    let helped : Finalized = record { helpers = helpers; operand = BXD12 base scratch 0 flags } in
    let stays : Finalized = record { helpers = []; operand = RegOffset base off flags } in
    let loaded : Finalized = record { helpers = helpers ++ LoadAddr scratch (BXD12 base scratch 0 flags) ∷ []; operand = BXD12 scratch no_register 0 flags } in
    let tests = far_tests (fits_32 off) (fits_12 off) (fits_20 off) far in
    let displaced : with_displacement (RegOffset base off flags) ≡ helped =
    ap (λ t. cond t short (cond (fits_20 off) long (cond (fits_32 off) helped stays))) tests.1
    ∙ ap (λ t. cond t long (cond (fits_32 off) helped stays)) tests.2
    ∙ ap (λ t. cond t helped stays) tests.0 in
    let lowered : finalized_operand mi (RegOffset base off flags) ≡ with_widened mi helped =
    ap (λ f. with_widened mi (with_address_loaded mi f)) displaced
    ∙ ap (λ t. with_widened mi (cond t loaded helped)) indexed.1 in
    let registers = unless (operands_valid && is_general base) BadRegister in
    let late : Bool → Bool → Option EmitError = λ lost holds. first_emit_cause (first_emit_cause (unless (not lost) ScratchConflict) (unless (holds && true) OffsetOutOfRange)) None in (
      ap (λ (f : Finalized). f.helpers) lowered,
      ap (λ (f : Finalized). is_relative f.operand) lowered ∙ indexed.2,
      ap (λ (f : Finalized). option_map bytes_of (storage_row form f.operand)) lowered ∙ indexed.3,
      λ D. ap (λ t. first_emit_cause (unless t BadOperator) (first_emit_cause registers (late ((is_numbered 1 base && is_far off) || false) (fits_32 off)))) indexed.0
          ∙ ap (λ t. first_emit_cause registers (late ((t && is_far off) || false) (fits_32 off))) other
          ∙ ap (λ t. first_emit_cause registers (late false t)) tests.0
          ∙ first_none registers,
    )

pub far_found : (form : StorageForm) (base : Reg) (imm off : ℤ) (flags : AccessFlags) (accesses operands_valid : Bool) (code : List ℕ) → Some imm ≡ cond (is_far off) (Some off) None → is_numbered 1 base ≡ false → IsIndexed form accesses base flags code →
    IsBehind (record { form = form; operand = RegOffset base off flags; accesses = accesses; operands_valid = operands_valid; reads_scratch = false }) (Mov64SImm32 scratch imm ∷ []) code
far_found form base imm off flags accesses operands_valid code far other indexed =
    let p = held (is_far off) imm off far in
    subst (λ z. IsBehind (record { form = form; operand = RegOffset base off flags; accesses = accesses; operands_valid = operands_valid; reads_scratch = false }) (Mov64SImm32 scratch z ∷ []) code) (sym p.1)
    (far_behind form base off flags accesses operands_valid code p.0 other indexed)

pub short_indexed : (found : Option (List ℕ)) (register base : Reg) (rx_opcode rxy_opcode ril_opcode : Option ℕ) (opcode : ℕ) (flags : AccessFlags) (accesses : Bool) → rx_opcode ≡ Some opcode →
    IfSome found (λ code. code ≡ bytes_of (rx opcode (number_of register) (number_of base) (number_of scratch) (low_12 0))) →
    IfSome found (λ code. IsIndexed (RxForm (number_of register) rx_opcode rxy_opcode ril_opcode) accesses base flags code)
short_indexed None register base rx_opcode rxy_opcode ril_opcode opcode flags accesses some same = tt
short_indexed (Some code) register base rx_opcode rxy_opcode ril_opcode opcode flags accesses some same =
    subst (λ o. IsIndexed (RxForm (number_of register) o rxy_opcode ril_opcode) accesses base flags code) (sym some) (refl, refl, refl, ap Some (sym same))

pub long_indexed : (found : Option (List ℕ)) (register base : Reg) (rx_opcode rxy_opcode ril_opcode : Option ℕ) (opcode : ℕ) (flags : AccessFlags) (accesses : Bool) → rx_opcode ≡ None → rxy_opcode ≡ Some opcode →
    IfSome found (λ code. code ≡ bytes_of (rxy opcode (number_of register) (number_of base) (number_of scratch) (low_displacement (pos 0)))) →
    IfSome found (λ code. IsIndexed (RxForm (number_of register) rx_opcode rxy_opcode ril_opcode) accesses base flags code)
long_indexed None register base rx_opcode rxy_opcode ril_opcode opcode flags accesses none some same = tt
long_indexed (Some code) register base rx_opcode rxy_opcode ril_opcode opcode flags accesses none some same =
    subst (λ o. IsIndexed (RxForm (number_of register) o rxy_opcode ril_opcode) accesses base flags code) (sym none)
    (subst (λ o. IsIndexed (RxForm (number_of register) None o ril_opcode) accesses base flags code) (sym some) (refl, refl, refl, ap Some (sym same)))

-- ---- what it puts

-- the row that has the code
pub row_found : {P : Type 0} (o : Option MachineInstruction) (code : List ℕ) → option_map bytes_of o ≡ Some code → ((m : MachineInstruction) → o ≡ Some m → code ≡ bytes_of m → P) → P
row_found None code h f = absurd (cc)
row_found (Some m) code h f = f m refl (cc)

pub behind_parts : (form : StorageForm) (trap : Option TrapKind) (f : Finalized) (helpers : List Inst) (m : MachineInstruction) → f.helpers ≡ helpers → is_relative f.operand ≡ false → storage_row form f.operand ≡ Some m →
    finalized_parts form trap f ≡ helpers_parts helpers ++ access_parts (Some m) trap
behind_parts form trap f helpers m alone absolute row =
    ap (λ hs. helpers_parts hs ++ operand_parts form trap f.operand) alone
    ∙ ap (λ t. helpers_parts helpers ++ cond t (relative_parts form trap f.operand) (access_parts (storage_row form f.operand) trap)) absolute
    ∙ ap (λ o. helpers_parts helpers ++ access_parts o trap) row

pub plain_parts : (form : StorageForm) (trap : Option TrapKind) (f : Finalized) (m : MachineInstruction) → f.helpers ≡ [] → is_relative f.operand ≡ false → storage_row form f.operand ≡ Some m → finalized_parts form trap f ≡ access_parts (Some m) trap
plain_parts form trap f m = behind_parts form trap f [] m

pub plain_size : (trap : Option TrapKind) (m : MachineInstruction) → parts_size (access_parts (Some m) trap) ≡ length (bytes_of m)
plain_size None m = omega (arith, length-bytes m)
plain_size (Some code) m = omega (arith, length-bytes m)

-- how many bytes an access has behind the load of an offset
pub far_row_size : (off : ℤ) (trap : Option TrapKind) (m : MachineInstruction) → parts_size (helpers_parts (Mov64SImm32 scratch off ∷ []) ++ access_parts (Some m) trap) ≡ 6 + length (bytes_of m)
unfolding length_of
far_row_size off trap m = ap (λ n. 6 + n) (plain_size trap m)
