-- The causes of an instruction with a memory operand, by those of its operand; where none stands, what is lowered can be encoded.
use Rattle.std.proofs.Common.{◌≡◌, ℤ, pos, negsuc, int_le, unsigned_abs, List, [], ◌∷◌, ◌++◌, Bool, true, false, cond, not, ◌&&◌, ◌||◌, length, nat_lt, Option, None, Some, refl, sym, ap, ◌∙◌, arith}
use Rattle.std.proofs.lemmas.Bool.{and_parts, and_from}
use Rattle.std.proofs.lemmas.Int.{ints}
use Rattle.s390x_base.specs.declared.error.EmitError.{EmitError}
use Rattle.s390x_base.specs.declared.error.EmitError.TheVariants.{BadOperator, BadRegister, ScratchConflict, OffsetOutOfRange, UnboundLabel}
use Rattle.s390x_base.specs.AccessFlags.{AccessFlags}
use Rattle.s390x_base.specs.declared.regs.Reg.{Reg}
use Rattle.s390x_inst.specs.declared.args.MemArg.{MemArg}
use Rattle.s390x_inst.specs.declared.args.MemArg.TheVariants.{BXD12, BXD20, Label, Constant, RegOffset}
use Rattle.s390x_inst.specs.declared.inst.Inst.{Inst}
use Rattle.s390x_inst.specs.declared.inst.Inst.TheVariants.{Mov64SImm32, LoadAddr}
use Rattle.s390x_typed_steps.specs.Causes.{Declared, first_emit_cause, unless, is_helped, operand_cause, late_cause, addend_fits, bound_cause, target_cause, memory_cause}
use Rattle.s390x_typed_steps.specs.General.{is_general}
use Rattle.s390x_typed_steps.specs.Memory.{MemoryInstruction, type_of}
use Rattle.s390x_typed_steps.specs.Operands.{Finalized, scratch, no_register, fits_12, fits_20, fits_32, with_offset, with_displacement, needs_address, with_address_loaded, with_long_displacement, with_widened, finalized_operand, has_form, loses_base, offset_fits, operand_general}
use Rattle.s390x_typed_steps.specs.declared.mem_inst_type.MemInstType.{MemInstType}
use Rattle.s390x_typed_steps.proofs.Causes.{first_left, first_right, unless_true}
use Rattle.s390x_address.specs.Lowerings.{far_helper, address_helper, finalized_of, offset_cause, is_bound_operand, may_stand, address_stands, lowering_stands}
use Rattle.s390x_address.specs.declared.lowering.Lowering.{Lowering}

-- ---- an offset past 32 bits has no helper

pub wider_12 : (z : ℤ) → fits_12 z ≡ true → fits_32 z ≡ true
wider_12 z h =
    let p = and_parts (int_le (pos 0) z) (int_le z (pos 4095)) h in
    and_from (int_le (negsuc 2147483647) z) (int_le z (pos 2147483647)) (grind (arith, ints)) (grind (arith, ints))

pub wider_20 : (z : ℤ) → fits_20 z ≡ true → fits_32 z ≡ true
wider_20 z h =
    let p = and_parts (int_le (negsuc 524287) z) (int_le z (pos 524287)) h in
    and_from (int_le (negsuc 2147483647) z) (int_le z (pos 2147483647)) (grind (arith, ints)) (grind (arith, ints))

unlike : (s t : Bool) → (s ≡ true → t ≡ true) → t ≡ false → s ≡ false
unlike true t f h = sym (f refl) ∙ h
unlike false t f h = refl

past_stays : (reg : Reg) (off : ℤ) (flags : AccessFlags) → fits_32 off ≡ false → with_offset reg off flags ≡ record { helpers = []; operand = RegOffset reg off flags }
past_stays reg off flags h =
    let stays : Finalized = record { helpers = []; operand = RegOffset reg off flags } in
    let far : Finalized = record { helpers = Mov64SImm32 scratch off ∷ []; operand = BXD12 reg scratch 0 flags } in
    let short : Finalized = record { helpers = []; operand = BXD12 reg no_register (unsigned_abs off) flags } in
    let long : Finalized = record { helpers = []; operand = BXD20 reg no_register off flags } in
    ap (λ t. cond t short (cond (fits_20 off) long (cond (fits_32 off) far stays))) (unlike (fits_12 off) (fits_32 off) (wider_12 off) h)
    ∙ ap (λ t. cond t long (cond (fits_32 off) far stays)) (unlike (fits_20 off) (fits_32 off) (wider_20 off) h)
    ∙ ap (λ t. cond t far stays) h

pub unfit_unhelped : (mi : MemInstType) (m : MemArg) → offset_fits m ≡ false → is_helped (finalized_operand mi m).helpers ≡ false
unfit_unhelped mi (RegOffset reg off flags) h = ap (λ f. is_helped (with_widened mi (with_address_loaded mi f)).helpers) (past_stays reg off flags h)
unfit_unhelped mi m h = absurd (cc)

-- ---- the causes of the operand

late_of : (b t fits more : Bool) → first_emit_cause (unless (not b) ScratchConflict) (unless fits OffsetOutOfRange) ≡ None → first_emit_cause (unless (not (b || t)) ScratchConflict) (unless (fits && more) OffsetOutOfRange) ≡ first_emit_cause (unless (not t) ScratchConflict) (unless more OffsetOutOfRange)
late_of true t fits more h = absurd (cc)
late_of false t true more h = refl
late_of false t false more h = absurd (cc)

-- where the operand has no cause, it is left whether %r1 is read behind a helper, and whether an addend fits
pub late_ok : (x : MemoryInstruction) → operand_cause (type_of x.form x.accesses) x.operand ≡ None → late_cause x ≡ first_emit_cause (unless (not (x.reads_scratch && is_helped (finalized_operand (type_of x.form x.accesses) x.operand).helpers)) ScratchConflict) (unless (addend_fits x.operand) OffsetOutOfRange)
late_ok x h = late_of (loses_base x.operand) _ (offset_fits x.operand) (addend_fits x.operand) (first_right (unless (has_form (type_of x.form x.accesses) x.operand) BadOperator) _ h)

late_unlike : (b reads helped fits more : Bool) (e : EmitError) → (fits ≡ false → helped ≡ false) → first_emit_cause (unless (not b) ScratchConflict) (unless fits OffsetOutOfRange) ≡ Some e → first_emit_cause (unless (not (b || (reads && helped))) ScratchConflict) (unless (fits && more) OffsetOutOfRange) ≡ Some e
late_unlike true reads helped fits more e f h = h
late_unlike false reads helped true more e f h = absurd (cc)
late_unlike false true helped false more e f h = ap (λ t. first_emit_cause (unless (not t) ScratchConflict) (Some OffsetOutOfRange)) (f refl) ∙ h
late_unlike false false helped false more e f h = h

-- where it has one behind that of its rows, this is the cause
pub late_err : (x : MemoryInstruction) (e : EmitError) → has_form (type_of x.form x.accesses) x.operand ≡ true → operand_cause (type_of x.form x.accesses) x.operand ≡ Some e → late_cause x ≡ Some e
late_err x e form h =
    let mi = type_of x.form x.accesses in
    late_unlike (loses_base x.operand) x.reads_scratch _ (offset_fits x.operand) (addend_fits x.operand) e (unfit_unhelped mi x.operand) (sym (ap (λ t. first_emit_cause (unless t BadOperator) (offset_cause x.operand)) form) ∙ h)

of_late : (b t fits more : Bool) → first_emit_cause (unless (not (b || t)) ScratchConflict) (unless (fits && more) OffsetOutOfRange) ≡ None → first_emit_cause (unless (not b) ScratchConflict) (unless fits OffsetOutOfRange) ≡ None
of_late true t fits more h = absurd (cc)
of_late false t true more h = refl
of_late false t false more h = first_right (unless (not t) ScratchConflict) (Some OffsetOutOfRange) h

bound_true : (D : Declared) (m : MemArg) → bound_cause D m ≡ None → is_bound_operand D m ≡ true
bound_true D (Label target) h = unless_true (nat_lt target.0 D.blocks) UnboundLabel h
bound_true D (Constant c) h = unless_true (nat_lt c.0 (length D.aligns)) UnboundLabel h
bound_true D m h = refl

-- an instruction that isn't refused has an operand without a cause that can stand in it, and general registers
pub record Passes (D : Declared) (x : MemoryInstruction) : Type 0 where
  pub operand : operand_cause (type_of x.form x.accesses) x.operand ≡ None
  pub operands_valid : x.operands_valid ≡ true
  pub stands : may_stand D x.operand ≡ true

pub passes : (D : Declared) (x : MemoryInstruction) → memory_cause D x ≡ None → Passes D x
passes D x h =
    let mi = type_of x.form x.accesses in
    let form = unless_true (has_form mi x.operand) BadOperator (first_left _ _ h) in
    let later = first_right (unless (has_form mi x.operand) BadOperator) _ h in
    let registers = unless_true (x.operands_valid && operand_general x.operand) BadRegister (first_left _ _ later) in
    let last = first_right (unless (x.operands_valid && operand_general x.operand) BadRegister) (first_emit_cause (late_cause x) (target_cause D x)) later in
    let late = first_left (late_cause x) (target_cause D x) last in
    let place = first_right (late_cause x) (target_cause D x) last in
    let both = and_parts x.operands_valid (operand_general x.operand) registers in
    record {
      operand = ap (λ t. first_emit_cause (unless t BadOperator) (offset_cause x.operand)) form ∙ of_late (loses_base x.operand) _ (offset_fits x.operand) (addend_fits x.operand) late;
      operands_valid = both.0;
      stands = and_from (operand_general x.operand) (is_bound_operand D x.operand) both.1 (bound_true D x.operand (first_left (bound_cause D x.operand) _ place));
    }

-- ---- what was lowered can stand

helper_stands : Declared → Inst → Bool
helper_stands D (LoadAddr rd mem) = may_stand D mem
helper_stands D _ = true

-- the operands of helpers can stand
pub AllStand : Declared → List Inst → Type 0
AllStand D [] = Unit {0}
AllStand D (i ∷ is) = (helper_stands D i ≡ true) × AllStand D is

-- and that of the access
abbrev pub Stands : Declared → Finalized → Type 0
Stands D f = AllStand D f.helpers × (may_stand D f.operand ≡ true)

based_stands : (reg : Reg) → is_general reg ≡ true → (is_general reg && true && true) ≡ true
based_stands reg h = and_from (is_general reg && true) true (and_from (is_general reg) true h refl) refl

chosen_stands : (D : Declared) (reg : Reg) (off : ℤ) (flags : AccessFlags) (a b c : Bool) → is_general reg ≡ true →
    Stands D (cond a (record { helpers = []; operand = BXD12 reg no_register (unsigned_abs off) flags }) (cond b (record { helpers = []; operand = BXD20 reg no_register off flags }) (cond c (record { helpers = Mov64SImm32 scratch off ∷ []; operand = BXD12 reg scratch 0 flags }) (record { helpers = []; operand = RegOffset reg off flags }))))
unfolding AllStand helper_stands
chosen_stands D reg off flags true b c h = (tt, based_stands reg h)
chosen_stands D reg off flags false true c h = (tt, based_stands reg h)
chosen_stands D reg off flags false false true h = ((refl, tt), based_stands reg h)
chosen_stands D reg off flags false false false h = (tt, and_from (is_general reg) true h refl)

displaced_stands : (D : Declared) (m : MemArg) → may_stand D m ≡ true → Stands D (with_displacement m)
unfolding AllStand
displaced_stands D (RegOffset reg off flags) h = chosen_stands D reg off flags (fits_12 off) (fits_20 off) (fits_32 off) (and_parts (is_general reg) true h).0
displaced_stands D m h = (tt, h)

all_append : (D : Declared) (a b : List Inst) → AllStand D a → AllStand D b → AllStand D (a ++ b)
unfolding AllStand
all_append D [] b h k = k
all_append D (i ∷ a) b h k = (h.0, all_append D a b h.1 k)

loaded_stands : (D : Declared) (f : Finalized) (g : Finalized) (t : Bool) → Stands D f → Stands D g → Stands D (cond t g f)
loaded_stands D f g true h k = k
loaded_stands D f g false h k = h

addressed_stands : (D : Declared) (mi : MemInstType) (f : Finalized) → Stands D f → Stands D (with_address_loaded mi f)
unfolding AllStand helper_stands
addressed_stands D mi f h = loaded_stands D f _ (needs_address mi f.operand) h (all_append D f.helpers (LoadAddr scratch f.operand ∷ []) h.0 (h.1, tt), refl)

wider_stands : (D : Declared) (a b : MemArg) (t : Bool) → may_stand D a ≡ true → may_stand D b ≡ true → may_stand D (cond t a b) ≡ true
wider_stands D a b true h k = h
wider_stands D a b false h k = k

widened_stands : (D : Declared) (mi : MemInstType) (m : MemArg) → may_stand D m ≡ true → may_stand D (with_long_displacement mi m) ≡ true
widened_stands D mi (BXD12 base index disp flags) h = wider_stands D (BXD20 base index (pos disp) flags) (BXD12 base index disp flags) (not mi.have_d12 && mi.have_d20) h h
widened_stands D mi m h = h

pub finalized_stands : (D : Declared) (mi : MemInstType) (m : MemArg) → may_stand D m ≡ true → Stands D (finalized_operand mi m)
finalized_stands D mi m h =
    let f = addressed_stands D mi (with_displacement m) (displaced_stands D m h) in
    (f.0, widened_stands D mi (with_address_loaded mi (with_displacement m)).operand f.1)

address_of : (D : Declared) (far : Option ℤ) (address : Option MemArg) → AllStand D (far_helper far ++ address_helper address) → address_stands D address ≡ true
unfolding AllStand helper_stands
address_of D None None h = refl
address_of D None (Some mem) h = h.0
address_of D (Some off) None h = refl
address_of D (Some off) (Some mem) h = h.1.0

pub lowering_may_stand : (D : Declared) (p : Lowering) → Stands D (finalized_of p) → lowering_stands D p ≡ true
lowering_may_stand D p h = and_from (address_stands D p.address_load) (may_stand D p.operand) (address_of D p.offset_load p.address_load h.0) h.1
