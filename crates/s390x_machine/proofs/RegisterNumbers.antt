-- What the test of an instruction says of the numbers of its registers, masks and amounts.
use Rattle.std.proofs.Common.{◌≡◌, ℕ, ◌+◌, ◌%◌, ◌==◌, ◌<◌, Bool, true, false, ◌&&◌, IsTrue, refl, ap, arith, eqb-true, nat_eq, ℤ, pos, negsuc}
use Rattle.std.proofs.lemmas.Bool.{and_parts}
use Rattle.s390x_base.specs.Regs.{number_of, is_int, is_pair}
use Rattle.s390x_base.specs.declared.regs.Reg.{Reg}
use Rattle.s390x_base.specs.declared.regs.Reg.TheVariants.{Real, Virtual}
use Rattle.s390x_format.specs.declared.fields.Fields.{Fields}
use Rattle.s390x_typed_steps.specs.General.{is_general, is_even_pair, reuses, four_bits, rotation}
use Rattle.s390x_typed_steps.specs.Ranges.{IsConditionMask}
use Rattle.s390x_format.specs.declared.semantics.RowSemantics.{RowSemantics}
use Rattle.s390x_machine.specs.Semantics.{names_pair, is_odd_pair, register_field}
use Rattle.s390x_machine.proofs.Rows.{general_number}

pub two_small : (a b : Reg) → IsTrue (is_general a && is_general b) → (number_of a < 16) × (number_of b < 16)
two_small a b h = let p = and_parts (is_general a) (is_general b) h in (general_number a p.0, general_number b p.1)

pub three_small : (a b c : Reg) → IsTrue (is_general a && is_general b && is_general c) → (number_of a < 16) × (number_of b < 16) × (number_of c < 16)
three_small a b c h =
    let p = and_parts (is_general a && is_general b) (is_general c) h in
    let q = two_small a b p.0 in
    (q.0, q.1, general_number c p.1)

pub reused_small : (output input other : Reg) → IsTrue (reuses output input && is_general other) → (number_of output < 16) × (number_of other < 16)
reused_small output input other h =
    let p = and_parts (reuses output input) (is_general other) h in
    let q = and_parts (is_general output && is_general input) (nat_eq (number_of output) (number_of input)) p.0 in
    ((two_small output input q.0).0, general_number other p.1)

pub output_small : (output input : Reg) → IsTrue (reuses output input) → number_of output < 16
output_small output input h =
    let p = and_parts (is_general output && is_general input) (nat_eq (number_of output) (number_of input)) h in
    (two_small output input p.0).0

pub mask_bits : (mask : ℕ) → four_bits mask < 16
mask_bits mask = omega arith

pub rotation_small : (z : ℤ) → rotation z < 64
rotation_small (pos a) = omega arith
rotation_small (negsuc a) = omega arith

pub access_small : (output : Reg) (a : ℕ) → number_of output < 16 → (number_of output < 16) × (four_bits a < 16)
access_small output a lt = (lt, omega arith)

-- a pair that is even isn't odd
pub even_pair : (semantics : RowSemantics) (f : Fields) → register_field f 0 % 2 ≡ 0 → is_odd_pair semantics f ≡ false
even_pair semantics f e = go (names_pair semantics)
  where
    go : (b : Bool) → (b && (register_field f 0 % 2 == 1)) ≡ false
    go true = ap (λ n. n == 1) e
    go false = refl

pair_even : (high low : Reg) → IsTrue (is_even_pair high low) → (number_of high < 16) × (number_of high % 2 ≡ 0)
pair_even (Real h) (Real l) t =
    let p = and_parts (is_general (Real h) && is_general (Real l)) (is_pair (Real h) (Real l)) t in
    let q = and_parts (is_general (Real h)) (is_general (Real l)) p.0 in
    let m = and_parts (is_int h.class && is_int l.class && nat_eq (h.number % 2) 0) (nat_eq l.number (h.number + 1)) p.1 in
    let n = and_parts (is_int h.class && is_int l.class) (nat_eq (h.number % 2) 0) m.0 in
    (general_number (Real h) q.0, eqb-true (h.number % 2) 0 n.1)
pair_even (Real h) (Virtual n c) t = let no = (and_parts (is_general (Real h) && is_general (Virtual n c)) (is_pair (Real h) (Virtual n c)) t).1 in absurd (cc)
pair_even (Virtual n c) low t = absurd (cc)

pub pair_small : (high low other : Reg) → IsTrue (is_even_pair high low && is_general other) → (number_of high < 16) × (number_of high % 2 ≡ 0) × (number_of other < 16)
pair_small high low other t =
    let p = and_parts (is_even_pair high low) (is_general other) t in
    let q = pair_even high low p.0 in
    (q.0, q.1, general_number other p.1)

pub pair_small2 : (high low a b : Reg) → IsTrue (is_even_pair high low && is_general a && is_general b) → (number_of high < 16) × (number_of high % 2 ≡ 0) × (number_of a < 16) × (number_of b < 16)
pair_small2 high low a b t =
    let p = and_parts (is_even_pair high low && is_general a) (is_general b) t in
    let q = pair_small high low a p.0 in
    (q.0, q.1, q.2, general_number b p.1)

pub pair_tested_small : (high low other : Reg) (test : Bool) → IsTrue (is_even_pair high low && test && is_general other) → (number_of high < 16) × (number_of high % 2 ≡ 0) × (number_of other < 16)
pair_tested_small high low other test t =
    let p = and_parts (is_even_pair high low && test) (is_general other) t in
    let q = pair_even high low (and_parts (is_even_pair high low) test p.0).0 in
    (q.0, q.1, general_number other p.1)

pub small_mask : (mask : ℕ) → IsConditionMask mask → mask < 16
small_mask mask m = omega (arith, m.1)
