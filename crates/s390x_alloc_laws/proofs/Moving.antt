-- A move that there is has registers that can be encoded, and loses no value in %r1.
use Rattle.std.proofs.Common.{◌≡◌, ℕ, ◌<◌, nat_eq, nat_lt, Bool, true, false, not, ◌&&◌, ◌||◌, Some, None, refl, sym, ap, subst, ◌∙◌}
use Rattle.std.proofs.lemmas.Bool.{and_from, false≢true, lt-ltb, or_parts, not-false, and_left}
use Rattle.s390x_base.specs.Registers.{IsRegister, RealRegister, general, register_count}
use Rattle.s390x_base.specs.Regs.{is_int, number_of}
use Rattle.s390x_base.specs.declared.error.EmitError.TheVariants.{BadRegister, OffsetOutOfRange, ScratchConflict}
use Rattle.s390x_base.specs.declared.regs.Reg.TheVariants.{Real}
use Rattle.s390x_base.specs.declared.regs.RegClass.{RegClass}
use Rattle.s390x_base.specs.declared.regs.RegClass.TheVariants.{Int, Float}
use Rattle.s390x_inst.specs.declared.args.MemArg.{MemArg}
use Rattle.s390x_inst.specs.declared.inst.Inst.{Inst}
use Rattle.s390x_inst.specs.declared.inst.Inst.TheVariants.{Mov64, Vector}
use Rattle.s390x_inst.specs.declared.vec_inst.VecInst.TheVariants.{VecMov}
use Rattle.s390x_alloc.specs.declared.plan.Place.TheVariants.{Reg as InReg, Slot}
use Rattle.s390x_alloc.specs.Moves.{copy_of, is_unlike, is_unmovable, load_of, slot_operand, store_of}
use Rattle.s390x_alloc.specs.Same.{is_reserved, same_class, same_real}
use Rattle.s390x_alloc.proofs.Sameness.{class-same}
use Rattle.s390x_alloc_laws.specs.Allocatable as Emitted
use Rattle.s390x_alloc_laws.specs.Allocatable.{IsNotBlamed, refusal}
use Rattle.s390x_alloc_laws.proofs.Given.{clear, facility_clear, first_clear, unless_clear}
use Rattle.s390x_rows.specs.declared.opcodes.TheConstants as opcodes
use Rattle.s390x_typed_steps.specs.Causes.{addend_fits, facility_cause, first_emit_cause, loses_scratch, unless}
use Rattle.s390x_typed_steps.specs.General.{is_general}
use Rattle.s390x_typed_steps.specs.Memory.{MemoryInstruction, RxForm, type_of}
use Rattle.s390x_typed_steps.specs.Operands.{finalized_operand, is_helped, is_numbered, offset_fits, resolved_operand}
use Rattle.s390x_typed_steps.specs.Resolved.{resolved_instruction}
use Rattle.s390x_typed_steps.specs.VectorInstruction.{is_vector}
use Rattle.s390x_alloc_laws.specs.Unblamed.{MovesAreNotBlamed}

-- ---- registers

int_numbered : (c : RegClass) (n : ℕ) → c ≡ Int → n < register_count c → (is_int c && nat_lt n 16) ≡ true
int_numbered Int n h lt = lt-ltb n 16 lt
int_numbered Float n h lt = absurd cc

general_real : (p : RealRegister) → p.class ≡ Int → IsRegister p → is_general (Real p) ≡ true
general_real p h lt = int_numbered p.class p.number h lt

float_numbered : (c : RegClass) (n : ℕ) → c ≡ Float → n < register_count c → (not (is_int c) && nat_lt n 32) ≡ true
float_numbered Float n h lt = lt-ltb n 32 lt
float_numbered Int n h lt = absurd cc

vector_real : (p : RealRegister) → p.class ≡ Float → IsRegister p → is_vector (Real p) ≡ true
vector_real p h lt = float_numbered p.class p.number h lt

same_test : (c : RegClass) → same_class c Int ≡ is_int c
same_test Int = refl
same_test Float = refl

-- a register that may be moved isn't %r1
not_scratch : (p : RealRegister) → is_reserved p ≡ false → is_numbered 1 (Real p) ≡ false
not_scratch p h =
    let low_apart = or_parts (same_real p (general 0) || same_real p (general 1)) (same_real p (general 15)) h in
    let apart = or_parts (same_real p (general 0)) (same_real p (general 1)) low_apart.0 in
    ap (λ (b : Bool). b && nat_eq p.number 1) (sym (same_test p.class)) ∙ apart.1

-- ---- causes

valid_clear : (b : Bool) → b ≡ true → IsNotBlamed (unless b BadRegister)
valid_clear true h = clear
valid_clear false h = absurd (false≢true h)

kept_clear : (b : Bool) → b ≡ false → IsNotBlamed (unless (not b) ScratchConflict)
kept_clear false h = clear
kept_clear true h = absurd (false≢true (sym h))

range_clear : (b : Bool) → IsNotBlamed (unless b OffsetOutOfRange)
range_clear b = unless_clear b OffsetOutOfRange ((λ h. absurd cc), (λ h. absurd cc))

-- of an access: its registers, what it loses, and its offset
access_clear : (valid lost fits : Bool) → valid ≡ true → lost ≡ false → IsNotBlamed (first_emit_cause (unless valid BadRegister) (first_emit_cause (first_emit_cause (unless (not lost) ScratchConflict) (unless fits OffsetOutOfRange)) None))
access_clear valid lost fits v l =
    first_clear (unless valid BadRegister) _ (valid_clear valid v)
    (first_clear (first_emit_cause (unless (not lost) ScratchConflict) (unless fits OffsetOutOfRange)) None (first_clear (unless (not lost) ScratchConflict) (unless fits OffsetOutOfRange) (kept_clear lost l) (range_clear fits)) clear)

-- ---- moves

copy_clear : (P : Emitted.Place) (c : RegClass) (p q : RealRegister) → p.class ≡ c → q.class ≡ c → IsRegister p → IsRegister q → IsNotBlamed (refusal P (copy_of c p q))
copy_clear P Int p q hp hq ep eq =
    first_clear (facility_cause P.flags (Mov64 (Real p) (Real q))) _ (facility_clear P.flags (Mov64 (Real p) (Real q)))
    (valid_clear (is_general (Real p) && is_general (Real q)) (and_from _ _ (general_real p hp ep) (general_real q hq eq)))
copy_clear P Float p q hp hq ep eq =
    first_clear (facility_cause P.flags (Vector (VecMov (Real p) (Real q)))) _ (facility_clear P.flags (Vector (VecMov (Real p) (Real q))))
    (valid_clear (is_vector (Real p) && is_vector (Real q)) (and_from _ _ (vector_real p hp ep) (vector_real q hq eq)))

-- the operand of a slot, as an exact offset
abbrev operand : Emitted.Place → ℕ → MemArg
operand P s = resolved_operand P.state (slot_operand s)

abbrev fits : MemArg → Bool
fits m = offset_fits m && addend_fits m

load_clear : (P : Emitted.Place) (c : RegClass) (p : RealRegister) (s : ℕ) → p.class ≡ c → IsRegister p → IsNotBlamed (refusal P (load_of c p s))
load_clear P Int p s h e =
    let i = resolved_instruction P.state (load_of Int p s) in
    first_clear (facility_cause P.flags i) _ (facility_clear P.flags i) (access_clear (is_general (Real p) && true) false (fits (operand P s)) (and_from (is_general (Real p)) true (general_real p h e) refl) refl)
load_clear P Float p s h e =
    let i = resolved_instruction P.state (load_of Float p s) in
    first_clear (facility_cause P.flags i) _ (facility_clear P.flags i) (access_clear (is_vector (Real p) && true) false (fits (operand P s)) (and_from (is_vector (Real p)) true (vector_real p h e) refl) refl)

-- the access of a store
abbrev stored : RealRegister → MemArg → MemoryInstruction
stored p m = record { form = RxForm (number_of (Real p)) None (Some opcodes.STG) (Some opcodes.STGRL); operand = m; accesses = true; operands_valid = is_general (Real p); reads_scratch = is_numbered 1 (Real p) }

store_clear : (P : Emitted.Place) (c : RegClass) (p : RealRegister) (s : ℕ) → p.class ≡ c → IsRegister p → is_reserved p ≡ false → IsNotBlamed (refusal P (store_of c p s))
store_clear P Int p s h e r =
    let i = resolved_instruction P.state (store_of Int p s) in
    let m = operand P s in
    let kept : loses_scratch (stored p m) ≡ false = and_left (is_numbered 1 (Real p)) (is_helped (finalized_operand (type_of (stored p m).form true) m).helpers) (not_scratch p r) in
    first_clear (facility_cause P.flags i) _ (facility_clear P.flags i) (access_clear (is_general (Real p) && true) (loses_scratch (stored p m)) (fits m) (and_from (is_general (Real p)) true (general_real p h e) refl) kept)
store_clear P Float p s h e r =
    let i = resolved_instruction P.state (store_of Float p s) in
    first_clear (facility_cause P.flags i) _ (facility_clear P.flags i) (access_clear (is_vector (Real p) && true) false (fits (operand P s)) (and_from (is_vector (Real p)) true (vector_real p h e) refl) refl)

pub moves_clear : MovesAreNotBlamed
moves_clear P layout (InReg p) (InReg q) held j ep eq h is =
    let a = or_parts (is_reserved p || is_reserved q) (is_unlike (InReg p) (InReg q) held) h in
    let same : p.class ≡ q.class = class-same p.class q.class (not-false (same_class p.class q.class) a.1) in
    let which : copy_of p.class p q ≡ j = cc in
    subst (λ (i : Inst). IsNotBlamed (refusal P i)) which (copy_clear P p.class p q refl (sym same) ep eq)
moves_clear P layout (InReg p) (Slot s) held j ep eq h is =
    let which : load_of p.class p s ≡ j = cc in
    subst (λ (i : Inst). IsNotBlamed (refusal P i)) which (load_clear P p.class p s refl ep)
moves_clear P layout (Slot s) (InReg q) held j ep eq h is =
    let a = or_parts (is_unmovable layout (Slot s) || is_reserved q) (is_unlike (Slot s) (InReg q) held) h in
    let b = or_parts (is_unmovable layout (Slot s)) (is_reserved q) a.0 in
    let which : store_of q.class q s ≡ j = cc in
    subst (λ (i : Inst). IsNotBlamed (refusal P i)) which (store_clear P q.class q s refl eq b.1)
moves_clear P layout (Slot s) (Slot t) held j ep eq h is = absurd cc
