-- Where the registers of an instruction are general ones, its row can be encoded.
use Rattle.std.proofs.Common.{◌≡◌, ℕ, ℤ, pos, negsuc, ◌<◌, Bool, true, not, false, ◌&&◌, ◌||◌, cond, refl, ap, ◌∙◌, Option, Some, Result, Ok, Err, MatchResult, arith, nat_lt, SFits, w16}
use Rattle.std.specs.Int.{cast_unsigned, cast_signed}
use Rattle.std.proofs.lemmas.Int.{ints, to_z-of_z}
use Rattle.s390x_base.specs.declared.error.EmitError.{EmitError}
use Rattle.s390x_typed_steps.specs.General.{low_halfword, is_general as checked_general}
use Rattle.std.proofs.lemmas.Bool.{and_parts, and_from, not-true, lt-ltb}
use Rattle.s390x_base.specs.Regs.{is_int, number_of}
use Rattle.s390x_base.specs.declared.regs.Reg.{Reg}
use Rattle.s390x_base.specs.declared.regs.Reg.TheVariants.{Real, Virtual}
use Rattle.s390x_base.specs.declared.regs.RegClass.{RegClass}
use Rattle.s390x_base.specs.declared.regs.RegClass.TheVariants.{Int, Float}
use Rattle.s390x_enc.specs.Operands.{is_general_class, is_int_class as class_encodes, is_float_class, is_vector, is_first_float, is_float, may_stand_first}
use Rattle.s390x_typed_steps.specs.VectorInstruction.{is_vector as checked_vector}
use Rattle.s390x_address.specs.Rows.{rows_take_general, has_12_bits}

pub indexed_encodes : (opcode : ℕ) (r1 b2 x2 : Reg) → (is_general_class r1 && rows_take_general (Some opcode)) ≡ true → (is_general_class b2 && is_general_class x2) ≡ true → (may_stand_first opcode r1 && is_general_class b2 && is_general_class x2) ≡ true
indexed_encodes opcode r1 b2 x2 h k =
    let p = and_parts (is_general_class r1) (not (is_first_float opcode)) h in
    let q = and_parts (is_general_class b2) (is_general_class x2) k in
    let first : may_stand_first opcode r1 ≡ true = ap (λ t. cond t (is_float r1) (is_general_class r1)) (not-true (is_first_float opcode) p.1) ∙ p.0 in
    and_from (may_stand_first opcode r1 && is_general_class b2) (is_general_class x2) (and_from (may_stand_first opcode r1) (is_general_class b2) first q.0) q.1

-- a vector register and a mask
pub masked_encodes : (v1 b2 x2 : Reg) (mask : ℕ) → (nat_lt mask 16 && is_vector v1) ≡ true → (is_general_class b2 && is_general_class x2) ≡ true → (nat_lt mask 16 && is_vector v1 && is_general_class b2 && is_general_class x2) ≡ true
masked_encodes v1 b2 x2 mask h k =
    let q = and_parts (is_general_class b2) (is_general_class x2) k in
    and_from (nat_lt mask 16 && is_vector v1 && is_general_class b2) (is_general_class x2) (and_from (nat_lt mask 16 && is_vector v1) (is_general_class b2) h q.0) q.1

-- a register that may stand first
pub float_encodes : (opcode : ℕ) (r1 b2 x2 : Reg) → may_stand_first opcode r1 ≡ true → (is_general_class b2 && is_general_class x2) ≡ true → (may_stand_first opcode r1 && is_general_class b2 && is_general_class x2) ≡ true
float_encodes opcode r1 b2 x2 h k =
    let q = and_parts (is_general_class b2) (is_general_class x2) k in
    and_from (may_stand_first opcode r1 && is_general_class b2) (is_general_class x2) (and_from (may_stand_first opcode r1) (is_general_class b2) h q.0) q.1

pub ranged_encodes : (r1 r3 b2 : Reg) → (is_general_class r1 && is_general_class r3) ≡ true → is_general_class b2 ≡ true → (is_general_class r1 && is_general_class r3 && is_general_class b2) ≡ true
ranged_encodes r1 r3 b2 h k = and_from (is_general_class r1 && is_general_class r3) (is_general_class b2) h k

-- what both answers say, in other words
pub matched : {T : Type 0} (P P' : T → Type 0) (Q Q' : EmitError → Type 0) (r : Result T EmitError) → MatchResult r P Q → ((x : T) → P x → P' x) → ((e : EmitError) → Q e → Q' e) → MatchResult r P' Q'
matched P P' Q Q' (Ok x) m f g = f x m
matched P P' Q Q' (Err e) m f g = g e m

of_halfword : (z : ℤ) → SFits w16 z → cast_unsigned w16 z ≡ low_halfword z
of_halfword (pos n) h = omega (arith, ints, h)
of_halfword (negsuc n) h = omega (arith, ints, h)

-- the bits of an immediate of 16 bits
pub halfword_bits : (z : ℤ) → SFits w16 z → cast_unsigned w16 (cast_signed w16 (cast_unsigned w16 z)) ≡ low_halfword z
halfword_bits z h = ap (cast_unsigned w16) (to_z-of_z w16 z h) ∙ of_halfword z h

class_general : (c : RegClass) (t : Bool) → (is_int c && t) ≡ true → class_encodes c ≡ true
class_general Int t h = refl
class_general Float t h = absurd (cc)

-- a real Int register can be encoded
pub one_general : (r : Reg) → checked_general r ≡ true → is_general_class r ≡ true
one_general (Real r) h = class_general r.class _ h
one_general (Virtual num class) h = absurd (cc)

-- a test with a weaker one behind it
pub implied : (s t : Bool) → (s ≡ true → t ≡ true) → (not s || t) ≡ true
implied true t h = h refl
implied false t h = refl

-- and back
pub follows : (s t : Bool) → (not s || t) ≡ true → s ≡ true → t ≡ true
follows true t h e = h
follows false t h e = absurd (cc)

pub register_encodes : (r : Reg) (rx_opcode rxy_opcode ril_opcode : Option ℕ) → (rows_take_general rx_opcode && rows_take_general rxy_opcode) ≡ true → has_12_bits ril_opcode ≡ true → (has_12_bits ril_opcode && (not (checked_general r) || (is_general_class r && rows_take_general rx_opcode && rows_take_general rxy_opcode))) ≡ true
register_encodes r rx_opcode rxy_opcode ril_opcode h k = and_from (has_12_bits ril_opcode) _ k (implied (checked_general r) _ (λ g.
    let p = and_parts (rows_take_general rx_opcode) (rows_take_general rxy_opcode) h in
    and_from (is_general_class r && rows_take_general rx_opcode) (rows_take_general rxy_opcode) (and_from (is_general_class r) (rows_take_general rx_opcode) (one_general r g) p.0) p.1))

pub two_encode : (a b : Reg) (t : Bool) → (not (checked_general a && checked_general b && t) || (is_general_class a && is_general_class b)) ≡ true
two_encode a b t = implied (checked_general a && checked_general b && t) _ (λ g.
    let p = and_parts (checked_general a) (checked_general b) (and_parts (checked_general a && checked_general b) t g).0 in
    and_from (is_general_class a) (is_general_class b) (one_general a p.0) (one_general b p.1))

pub class_vector : (c : RegClass) (t : Bool) → (not (is_int c) && t) ≡ true → is_float_class c ≡ true
class_vector Int t h = absurd (cc)
class_vector Float t h = refl

-- a real vector register can be encoded
one_vector : (r : Reg) → checked_vector r ≡ true → is_vector r ≡ true
one_vector (Real r) h = class_vector r.class _ h
one_vector (Virtual num class) h = absurd (cc)

pub vector_encodes : (r : Reg) (mask : ℕ) → mask < 16 → (true && (not (checked_vector r) || (nat_lt mask 16 && is_vector r))) ≡ true
vector_encodes r mask lt = implied (checked_vector r) _ (λ g. and_from (nat_lt mask 16) (is_vector r) (lt-ltb mask 16 lt) (one_vector r g))

low_float : (r : Reg) → (checked_vector r && nat_lt (number_of r) 16) ≡ true → is_float r ≡ true
low_float (Real r) h = let p = and_parts (checked_vector (Real r)) (nat_lt r.number 16) h in and_from (is_float_class r.class) (nat_lt r.number 16) (class_vector r.class _ p.0) p.1
low_float (Virtual num class) h = absurd (cc)

pub float_register_encodes : (r : Reg) (rx rxy : ℕ) → (is_first_float rx && is_first_float rxy) ≡ true → (true && (not (checked_vector r && nat_lt (number_of r) 16) || (may_stand_first rx r && may_stand_first rxy r))) ≡ true
float_register_encodes r rx rxy h = implied (checked_vector r && nat_lt (number_of r) 16) _ (λ g.
    let p = and_parts (is_first_float rx) (is_first_float rxy) h in
    let float = low_float r g in
    and_from (may_stand_first rx r) (may_stand_first rxy r) (ap (λ t. cond t (is_float r) (is_general_class r)) p.0 ∙ float) (ap (λ t. cond t (is_float r) (is_general_class r)) p.1 ∙ float))
