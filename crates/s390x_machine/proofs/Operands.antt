-- Addresses of operands in memory: what displacements and helpers make of them.
use Rattle.std.proofs.Common.{◌≡◌, ℕ, suc, ◌+◌, ◌-◌, ◌*◌, ◌%◌, ◌^◌, ◌<◌, ◌≤◌, inl, inr, Bool, true, false, cond, ◌&&◌, ◌==◌, IsTrue, refl, sym, ap, ◌∙◌, subst, arith}
use Rattle.std.specs.Prelude.{ℤ, pos, negsuc, ◌+ℤ◌, ◌-ℤ◌, ◌≤ℤ◌, int_le, nat_lt, nat_eq, if◌then◌else◌}
use Rattle.std.specs.Int.{cast_signed}
use mir.Syntax.{w16}
use lib.Signed.{le_z_yes}
use lib.Dec.{T}
use Rattle.std.proofs.Math.Nat.{add-mod_right}
use Rattle.std.proofs.lemmas.Bool.{and_parts, cases_lt, lt-ltb, le-ltb}
use Rattle.std.proofs.lemmas.Int.{ints, to_z-of_z, to_z_pos}
use Rattle.s390x_base.specs.Regs.{number_of, is_int}
use Rattle.s390x_base.specs.declared.regs.Reg.{Reg}
use Rattle.s390x_base.specs.declared.regs.Reg.TheVariants.{Real, Virtual}
use Rattle.s390x_format.specs.View.{disp_of}
use Rattle.s390x_typed_steps.specs.General.{is_general, low_word, low_displacement, low_12, low_halfword}
use Rattle.s390x_typed_steps.specs.Operands.{is_numbered, fits_12, fits_20, fits_32}
use Rattle.s390x_lanes.specs.declared.operators.Signedness.TheVariants.{Signed}
use Rattle.s390x_operations.specs.Bits.{extended_bits}
use Rattle.s390x_operations.specs.Numbers.{low}
use Rattle.s390x_operations.specs.State.{Registers, set_general}
use Rattle.s390x_operations.specs.declared.size.Size.TheVariants.{Doubleword}
use Rattle.s390x_operations.specs.declared.size.Width.TheVariants.{Bits32}
use Rattle.s390x_machine.specs.Operands.{address_part, address_by_index, address_by_base}
use Rattle.s390x_machine.specs.Storage.{signed_immediate}
use Rattle.s390x_machine.proofs.Addresses.{low_of}
use Rattle.s390x_machine.proofs.SingleInstruction.{low_small}

-- ---- ranges

in_order : (a b : ℤ) → int_le a b ≡ true → a ≤ℤ b
in_order a b e = le_z_yes (subst T (sym e) tt)

between : (least z most : ℤ) → (int_le least z && int_le z most) ≡ true → (least ≤ℤ z) × (z ≤ℤ most)
between least z most e =
    let p = and_parts (int_le least z) (int_le z most) e in
    (in_order least z p.0, in_order z most p.1)

pub short_12 : (z : ℤ) → fits_12 z ≡ true → (n : ℕ) × (z ≡ pos n) × (n ≤ 4095)
short_12 (pos a) e = let p = between (pos 0) (pos a) (pos 4095) e in (a, refl, omega (arith, p.1, ints))
short_12 (negsuc a) e = let p = between (pos 0) (negsuc a) (pos 4095) e in absurd (omega (arith, p.0, ints))

pub short_20 : (z : ℤ) → fits_20 z ≡ true → (negsuc 524287 ≤ℤ z) × (z ≤ℤ pos 524287)
short_20 z e = between (negsuc 524287) z (pos 524287) e

pub short_32 : (z : ℤ) → fits_32 z ≡ true → (negsuc 2147483647 ≤ℤ z) × (z ≤ℤ pos 2147483647)
short_32 z e = between (negsuc 2147483647) z (pos 2147483647) e

-- ---- displacements are read back

pub read_12 : (d : ℕ) → d ≤ 4095 → disp_of (low_12 d) ≡ pos d
read_12 d le = let same : low_12 d ≡ d = omega (arith, le) in ap disp_of same ∙ ap (λ t. cond t (pos d) (pos d -ℤ pos (2 ^ 20))) (lt-ltb d (2 ^ 19) (omega (arith, le)))

pub read_20 : (z : ℤ) → negsuc 524287 ≤ℤ z → z ≤ℤ pos 524287 → disp_of (low_displacement z) ≡ z
read_20 (pos a) least most =
    let le : a ≤ 524287 = omega (arith, most, ints) in
    let same : low_displacement (pos a) ≡ a = omega (arith, le) in
    ap disp_of same ∙ ap (λ t. cond t (pos a) (pos a -ℤ pos (2 ^ 20))) (lt-ltb a (2 ^ 19) (omega (arith, le)))
read_20 (negsuc a) least most =
    let le : a ≤ 524287 = omega (arith, least, ints) in
    let m : ℕ = 1048576 - suc a in
    let same : low_displacement (negsuc a) ≡ m = omega (arith, le) in
    let back : pos m -ℤ pos (2 ^ 20) ≡ negsuc a = omega (arith, le, ints) in
    ap disp_of same ∙ ap (λ t. cond t (pos m) (pos m -ℤ pos (2 ^ 20))) (le-ltb m (2 ^ 19) (omega (arith, le))) ∙ back

-- ---- the bits of immediates and displacements

pub halfword_bits : (z : ℤ) → low_halfword z < 2 ^ 16
halfword_bits (pos a) = omega arith
halfword_bits (negsuc a) = omega arith

pub word_bits : (z : ℤ) → low_word z < 2 ^ 32
word_bits (pos a) = omega arith
word_bits (negsuc a) = omega arith

pub displacement_bits : (z : ℤ) → low_displacement z < 2 ^ 20
displacement_bits (pos a) = omega arith
displacement_bits (negsuc a) = omega arith

pub bits_12 : (d : ℕ) → low_12 d < 2 ^ 12
bits_12 d = omega arith

-- ---- registers

-- a base by itself
pub based_indexed : (r : Registers) (base : ℕ) (d : ℤ) → address_by_index r base 0 d ≡ address_by_base r base d
based_indexed r base d = let e : address_part r base + 0 ≡ address_part r base = omega arith in ap (λ n. low Doubleword (pos n +ℤ d)) e

-- a register of another number stays
pub other_kept : (r : Registers) (v i : ℕ) → (i == 1) ≡ false → (set_general r 1 v).general i ≡ r.general i
other_kept r v i e = ap (λ t. cond t v (r.general i)) e

part_kept : (r : Registers) (v i : ℕ) → (i == 1) ≡ false → address_part (set_general r 1 v) i ≡ address_part r i
part_kept r v i e = ap (λ x. if i == 0 then 0 else x) (other_kept r v i e)

pub twice : (t : Bool) (v w f : ℕ) → cond t w (cond t v f) ≡ cond t w f
twice true v w f = refl
twice false v w f = refl

-- the last value that a register gets stays
pub put_twice : (r : Registers) (v w : ℕ) → set_general (set_general r 1 v) 1 w ≡ set_general r 1 w
put_twice r v w = λ i. record r { general = λ k. twice (k == 1) v w (r.general k) i }

-- a general register that isn't %r1
pub not_scratch : (r : Reg) → IsTrue (is_general r) → is_numbered 1 r ≡ false → (number_of r == 1) ≡ false
not_scratch (Real r) g e = let p = and_parts (is_int r.class) (nat_lt r.number 16) g in ap (λ c. c && nat_eq r.number 1) (sym p.0) ∙ e
not_scratch (Virtual n c) g e = absurd (cc)

-- a general register that isn't %r0
pub zero_test : (r : Reg) → IsTrue (is_general r) → is_numbered 0 r ≡ nat_eq (number_of r) 0
zero_test (Real r) g = let p = and_parts (is_int r.class) (nat_lt r.number 16) g in ap (λ c. c && nat_eq r.number 0) p.0
zero_test (Virtual n c) g = absurd (cc)

-- ---- what helpers load

pub low_below : (z : ℤ) → low Doubleword z < 2 ^ 64
low_below (pos a) = omega arith
low_below (negsuc a) = omega arith

-- an address that stands in %r1
pub loaded_address : (r : Registers) (a : ℕ) → a < 2 ^ 64 → address_by_index (set_general r 1 (a % 2 ^ 64)) 1 0 (pos 0) ≡ a
loaded_address r a lt =
    let e : a % 2 ^ 64 + 0 + 0 ≡ a = omega (arith, lt) in
    ap (λ n. low Doubleword (pos n)) e ∙ low_small a lt

-- an offset of 32 bits that stands in %r1, as an index
loaded_offset : (x : ℕ) (off : ℤ) → negsuc 2147483647 ≤ℤ off → off ≤ℤ pos 2147483647 → low Doubleword (pos (x + extended_bits Signed Bits32 Doubleword (low_word off)) +ℤ pos 0) ≡ low Doubleword (pos x +ℤ off)
loaded_offset x (pos a) least most =
    let le : a ≤ 2147483647 = omega (arith, most, ints) in
    let word : low_word (pos a) % 2 ^ 32 ≡ a = omega (arith, le) in
    let value : extended_bits Signed Bits32 Doubleword (low_word (pos a)) ≡ a = ap (λ n. cond (nat_lt n (2 ^ 31)) n (n + (2 ^ 64 - 2 ^ 32))) word ∙ ap (λ t. cond t a (a + (2 ^ 64 - 2 ^ 32))) (lt-ltb a (2 ^ 31) (omega (arith, le))) in
    let e : pos (x + a) +ℤ pos 0 ≡ pos x +ℤ pos a = omega (arith, ints) in
    ap (λ n. low Doubleword (pos (x + n) +ℤ pos 0)) value ∙ ap (low Doubleword) e
loaded_offset x (negsuc a) least most =
    let le : a ≤ 2147483647 = omega (arith, least, ints) in
    let m : ℕ = 2 ^ 32 - suc a in
    let word : low_word (negsuc a) % 2 ^ 32 ≡ m = omega (arith, le) in
    let high : m + (2 ^ 64 - 2 ^ 32) ≡ 2 ^ 64 - suc a = omega (arith, le) in
    let value : extended_bits Signed Bits32 Doubleword (low_word (negsuc a)) ≡ 2 ^ 64 - suc a = ap (λ n. cond (nat_lt n (2 ^ 31)) n (n + (2 ^ 64 - 2 ^ 32))) word ∙ ap (λ t. cond t m (m + (2 ^ 64 - 2 ^ 32))) (le-ltb m (2 ^ 31) (omega (arith, le))) ∙ high in
    let n : ℕ = x + (2 ^ 64 - suc a) in
    let left : pos n +ℤ pos 0 +ℤ pos (1 * 2 ^ 64) ≡ pos (n + 2 ^ 64) = omega (arith, ints) in
    let right : pos x +ℤ negsuc a +ℤ pos (1 * 2 ^ 64) ≡ pos n = omega (arith, le, ints) in
    ap (λ y. low Doubleword (pos (x + y) +ℤ pos 0)) value ∙ low_of (pos n +ℤ pos 0) (n + 2 ^ 64) left ∙ add-mod_right n (2 ^ 64) ∙ sym (low_of (pos x +ℤ negsuc a) n right)

-- a register plus an offset that stands in %r1
pub far_offset : (r : Registers) (base : ℕ) (off : ℤ) → (base == 1) ≡ false → negsuc 2147483647 ≤ℤ off → off ≤ℤ pos 2147483647 → address_by_index (set_general r 1 (extended_bits Signed Bits32 Doubleword (low_word off))) base 1 (pos 0) ≡ address_by_base r base off
far_offset r base off other least most =
    let v = extended_bits Signed Bits32 Doubleword (low_word off) in
    ap (λ x. low Doubleword (pos (x + v) +ℤ pos 0)) (part_kept r v base other) ∙ loaded_offset (address_part r base) off least most

-- 16 bits of an immediate, as the format reads them
pub signed_read : (bits : ℕ) → bits < 2 ^ 16 → low Doubleword (cast_signed w16 (bits % 2 ^ 16)) ≡ signed_immediate bits
signed_read bits lt =
    let same : bits % 2 ^ 16 ≡ bits = omega (arith, lt) in
    let extends : signed_immediate bits ≡ cond (nat_lt bits (2 ^ 15)) bits (bits + (2 ^ 64 - 2 ^ 16)) = ap (λ n. cond (nat_lt n (2 ^ 15)) n (n + (2 ^ 64 - 2 ^ 16))) same in
    ap (λ n. low Doubleword (cast_signed w16 n)) same
    ∙ elim (cases_lt bits (2 ^ 15)) [
      | inl less ↦ ap (low Doubleword) (to_z_pos w16 bits less) ∙ low_small bits (omega (arith, lt)) ∙ sym (extends ∙ ap (λ t. cond t bits (bits + (2 ^ 64 - 2 ^ 16))) (lt-ltb bits (2 ^ 15) less))
      | inr more ↦ negative (2 ^ 16 - 1 - bits) (omega (arith, lt)) (omega (arith, more)) ∙ sym (extends ∙ ap (λ t. cond t bits (bits + (2 ^ 64 - 2 ^ 16))) (le-ltb bits (2 ^ 15) more))
    ]
  where
    negative : (i : ℕ) → bits ≡ 2 ^ 16 - suc i → suc i ≤ 2 ^ 15 → low Doubleword (cast_signed w16 bits) ≡ bits + (2 ^ 64 - 2 ^ 16)
    negative i e le =
        let m : ℕ = 2 ^ 64 - suc i in
        let sum : negsuc i +ℤ pos (1 * 2 ^ 64) ≡ pos m = omega (arith, le, ints) in
        let small : m % 2 ^ 64 ≡ bits + (2 ^ 64 - 2 ^ 16) = omega (arith, le, e) in
        ap (λ n. low Doubleword (cast_signed w16 n)) e ∙ ap (low Doubleword) (to_z-of_z w16 (negsuc i) (record { sfits = omega arith })) ∙ low_of (negsuc i) m sum ∙ small
