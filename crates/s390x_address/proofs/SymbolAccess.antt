-- An access of a symbol is its row that is relative to the symbol, or it stands behind the load of its address.
use Rattle.std.proofs.Common.{◌≡◌, ℕ, ◌+◌, pos, ◌+ℤ◌, List, [], ◌∷◌, ◌++◌, length, Bool, true, false, cond, not, ◌&&◌, ◌||◌, Option, None, Some, option_map, IfSome, refl, sym, ap, subst, ◌∙◌}
use Rattle.std.proofs.lemmas.Bool.{and_right, or_right}
use Rattle.s390x_base.specs.declared.error.EmitError.{EmitError}
use Rattle.s390x_base.specs.declared.error.EmitError.TheVariants.{BadOperator, BadRegister, ScratchConflict, OffsetOutOfRange}
use Rattle.s390x_base.specs.declared.regs.Reg.{Reg}
use Rattle.s390x_base.specs.declared.trap.TrapKind.{TrapKind}
use Rattle.s390x_buffer.specs.State.{BufferState}
use Rattle.s390x_inst.specs.Emission.{Emission}
use Rattle.s390x_inst.specs.Memory.{flags_of}
use Rattle.s390x_inst.specs.declared.args.MemArg.{MemArg}
use Rattle.s390x_inst.specs.declared.args.MemArg.TheVariants.{BXD12, RegOffset, Symbol}
use Rattle.s390x_inst.specs.declared.inst.Inst.TheVariants.{LoadAddr}
use Rattle.s390x_typed_steps.specs.Causes.{Declared, first_emit_cause, unless, is_helped, memory_cause}
use Rattle.s390x_typed_steps.specs.MachineInstruction.{MachineInstruction, bytes_of}
use Rattle.s390x_typed_steps.specs.Memory.{StorageForm, type_of, storage_row, address_form}
use Rattle.s390x_typed_steps.specs.Operands.{Finalized, scratch, no_register, fits_32, with_widened, finalized_operand, resolved_operand, needs_address, has_form, is_relative, operand_general}
use Rattle.s390x_typed_steps.specs.Parts.{CodePart, access_parts, helpers_parts, relative_parts, finalized_parts, parts_size}
use Rattle.s390x_typed_steps.proofs.Causes.{first_none, first_left, unless_true}
use Rattle.s390x_address.specs.Appended.{with_parts}
use Rattle.s390x_address.specs.Lowerings.{IsPlain, IsBehind, is_linkable, is_bound_operand}
use Rattle.s390x_address.proofs.Displacing.{plain_size}
use Rattle.s390x_address.proofs.OnlyMemory.{Puts}
use Rattle.s390x_address.proofs.Putting.{helpers_puts}

-- no frame operand
pub resolved_symbol : (e : Emission) (m : MemArg) → is_linkable m ≡ true → resolved_operand e m ≡ m
resolved_symbol e (Symbol name offset flags) h = refl
resolved_symbol e m h = absurd (cc)

pub symbol_bound : (D : Declared) (m : MemArg) → is_linkable m ≡ true → is_bound_operand D m ≡ true
symbol_bound D (Symbol name offset flags) h = refl
symbol_bound D m h = absurd (cc)

-- ---- by the row that is relative to it

pub at_symbol_cause : (D : Declared) (form : StorageForm) (m : MemArg) (accesses operands_valid reads_scratch : Bool) → is_linkable m ≡ true → needs_address (type_of form accesses) m ≡ false → (operands_valid && operand_general m) ≡ true →
    memory_cause D (record { form = form; operand = m; accesses = accesses; operands_valid = operands_valid; reads_scratch = reads_scratch }) ≡ None
at_symbol_cause D form (Symbol name offset flags) accesses operands_valid reads_scratch fits direct valid =
    let mi = type_of form accesses in
    let m = Symbol name offset flags in
    let based : Finalized = record { helpers = LoadAddr scratch m ∷ []; operand = BXD12 scratch no_register 0 flags } in
    let bare : Finalized = record { helpers = []; operand = m } in
    let helped = is_helped (finalized_operand mi m).helpers in
    let alone : helped ≡ false = ap (λ t. is_helped (with_widened mi (cond t based bare)).helpers) direct in
    let late : Bool → Bool → Option EmitError = λ lost holds. first_emit_cause (first_emit_cause (unless (not lost) ScratchConflict) (unless holds OffsetOutOfRange)) None in
    let last = late (reads_scratch && helped) (fits_32 (offset +ℤ pos 2)) in
    let registers = unless (operands_valid && true) BadRegister in
    ap (λ t. first_emit_cause (unless (mi.have_d12 || mi.have_d20 || (true && not t)) BadOperator) (first_emit_cause registers last)) direct
    ∙ ap (λ t. first_emit_cause (unless t BadOperator) (first_emit_cause registers last)) (or_right (mi.have_d12 || mi.have_d20) true refl)
    ∙ ap (λ t. first_emit_cause (unless t BadRegister) last) valid
    ∙ ap (λ t. late (reads_scratch && t) (fits_32 (offset +ℤ pos 2))) alone
    ∙ ap (λ t. late t (fits_32 (offset +ℤ pos 2))) (and_right reads_scratch false refl)
    ∙ ap (λ t. late false t) fits
at_symbol_cause D form m accesses operands_valid reads_scratch fits direct valid = absurd (cc)

pub at_symbol_parts : (form : StorageForm) (m : MemArg) (accesses : Bool) (trap : Option TrapKind) → is_linkable m ≡ true → needs_address (type_of form accesses) m ≡ false →
    finalized_parts form trap (finalized_operand (type_of form accesses) m) ≡ relative_parts form trap m
at_symbol_parts form (Symbol name offset flags) accesses trap fits direct =
    let mi = type_of form accesses in
    let m = Symbol name offset flags in
    let based : Finalized = record { helpers = LoadAddr scratch m ∷ []; operand = BXD12 scratch no_register 0 flags } in
    let bare : Finalized = record { helpers = []; operand = m } in
    ap (λ t. finalized_parts form trap (with_widened mi (cond t based bare))) direct
at_symbol_parts form m accesses trap fits direct = absurd (cc)

-- ---- behind the load of its address

or_more : (a b : Bool) → (a || false) ≡ true → (a || b) ≡ true
or_more true b h = refl
or_more false b h = absurd (cc)

symbol_behind : (form : StorageForm) (m : MemArg) (accesses operands_valid : Bool) (code : List ℕ) → is_linkable m ≡ true → needs_address (type_of form accesses) m ≡ true →
    IsPlain (record { form = form; operand = RegOffset scratch (pos 0) (flags_of m); accesses = accesses; operands_valid = true; reads_scratch = false }) code →
    IsBehind (record { form = form; operand = m; accesses = accesses; operands_valid = operands_valid; reads_scratch = false }) (LoadAddr scratch m ∷ []) code
symbol_behind form (Symbol name offset flags) accesses operands_valid code fits needs plain =
    let mi = type_of form accesses in
    let m = Symbol name offset flags in
    let place = BXD12 scratch no_register 0 flags in
    let based : Finalized = record { helpers = LoadAddr scratch m ∷ []; operand = place } in
    let bare : Finalized = record { helpers = []; operand = m } in
    let lowered : finalized_operand mi m ≡ with_widened mi based = ap (λ t. with_widened mi (cond t based bare)) needs in
    let near : Finalized = record { helpers = []; operand = place } in
    let again : Finalized = record { helpers = LoadAddr scratch place ∷ []; operand = place } in
    let at_base : finalized_operand mi (RegOffset scratch (pos 0) flags) ≡ with_widened mi near = ap (λ t. with_widened mi (cond t again near)) (and_right (not mi.have_index) false refl) in
    let has : (D : Declared) → has_form mi m ≡ true = λ D. or_more (mi.have_d12 || mi.have_d20) (true && not (needs_address mi m)) (unless_true (has_form mi (RegOffset scratch (pos 0) flags)) BadOperator (first_left _ _ (plain.3 D))) in
    let registers = unless (operands_valid && true) BadRegister in
    let late : Bool → Option EmitError = λ holds. first_emit_cause (first_emit_cause None (unless holds OffsetOutOfRange)) None in (
      ap (λ (f : Finalized). f.helpers) lowered,
      ap (λ (f : Finalized). is_relative f.operand) lowered ∙ sym (ap (λ (f : Finalized). is_relative f.operand) at_base) ∙ plain.1,
      ap (λ (f : Finalized). option_map bytes_of (storage_row form f.operand)) lowered ∙ sym (ap (λ (f : Finalized). option_map bytes_of (storage_row form f.operand)) at_base) ∙ plain.2,
      λ D. ap (λ t. first_emit_cause (unless t BadOperator) (first_emit_cause registers (late (fits_32 (offset +ℤ pos 2))))) (has D)
          ∙ ap (λ t. first_emit_cause registers (late t)) fits
          ∙ first_none registers,
    )
symbol_behind form m accesses operands_valid code fits needs plain = absurd (cc)

pub symbol_found : (found : Option (List ℕ)) (form : StorageForm) (base : Reg) (m : MemArg) (accesses operands_valid reads_scratch : Bool) → is_linkable m ≡ true → needs_address (type_of form accesses) m ≡ true → reads_scratch ≡ false → base ≡ scratch →
    IfSome found (λ code. IsPlain (record { form = form; operand = RegOffset base (pos 0) (flags_of m); accesses = accesses; operands_valid = true; reads_scratch = false }) code) →
    IfSome found (λ code. IsBehind (record { form = form; operand = m; accesses = accesses; operands_valid = operands_valid; reads_scratch = reads_scratch }) (LoadAddr scratch m ∷ []) code)
symbol_found None form base m accesses operands_valid reads_scratch fits needs unread same plain = tt
symbol_found (Some code) form base m accesses operands_valid reads_scratch fits needs unread same plain =
    subst (λ r. IsBehind (record { form = form; operand = m; accesses = accesses; operands_valid = operands_valid; reads_scratch = r }) (LoadAddr scratch m ∷ []) code) (sym unread)
    (symbol_behind form m accesses operands_valid code fits needs (subst (λ b. IsPlain (record { form = form; operand = RegOffset b (pos 0) (flags_of m); accesses = accesses; operands_valid = true; reads_scratch = false }) code) same plain))

-- ---- what it puts

pub symbol_put : (s : BufferState) (m : MemArg) (rest : List CodePart) → is_linkable m ≡ true → with_parts (with_parts s (relative_parts (address_form scratch) None m)) rest ≡ with_parts s (helpers_parts (LoadAddr scratch m ∷ []) ++ rest)
symbol_put s (Symbol name offset flags) rest h = refl
symbol_put s m rest h = absurd (cc)

pub symbol_puts : (s t : BufferState) (m : MemArg) → is_linkable m ≡ true → t ≡ with_parts s (relative_parts (address_form scratch) None m) → Puts s t 6
symbol_puts s t (Symbol name offset flags) h e = helpers_puts s t (LoadAddr scratch (Symbol name offset flags) ∷ []) e
symbol_puts s t m h e = absurd (cc)

pub symbol_size : (m : MemArg) → is_linkable m ≡ true → parts_size (relative_parts (address_form scratch) None m) ≡ 6
symbol_size (Symbol name offset flags) h = refl
symbol_size m h = absurd (cc)

pub symbol_row_size : (m : MemArg) (trap : Option TrapKind) (row : MachineInstruction) → is_linkable m ≡ true → parts_size (helpers_parts (LoadAddr scratch m ∷ []) ++ access_parts (Some row) trap) ≡ 6 + length (bytes_of row)
symbol_row_size (Symbol name offset flags) trap row h = ap (λ n. 6 + n) (plain_size trap row)
symbol_row_size m trap row h = absurd (cc)
