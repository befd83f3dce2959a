-- Bytes that are taken from the stack pointer: the machine adds their number with a minus sign, or subtracts it.
use Rattle.std.proofs.Common.{◌≡◌, ℕ, zero, suc, ◌+◌, ◌-◌, ◌%◌, ◌<◌, ◌*◌, ◌^◌, Bool, true, false, cond, ℤ, pos, neg_ℤ, ◌+ℤ◌, ◌-ℤ◌, refl, sym, ap, ◌∙◌, arith, nat_lt}
use Rattle.std.specs.Prelude.{unsigned_abs}
use Rattle.std.proofs.lemmas.Bool.{le-ltb}
use Rattle.std.proofs.lemmas.Int.{ints, int_rem_euclid_is}
use Rattle.s390x_operations.specs.Numbers.{low, signed_number}
use Rattle.s390x_operations.specs.Signed.{signed_value}
use Rattle.s390x_operations.specs.Unsigned.{logical_value}
use Rattle.s390x_operations.specs.Bits.{extended_bits}
use Rattle.s390x_operations.specs.State.{Registers, with_code}
use Rattle.s390x_operations.specs.Effects.{Refines, set_sized}
use Rattle.s390x_operations.specs.declared.size.Size.TheVariants.{Doubleword}
use Rattle.s390x_operations.specs.declared.size.Width.TheVariants.{Bits16, Bits32}
use Rattle.s390x_lanes.specs.declared.operators.Signedness.TheVariants.{Signed, Unsigned}
use Rattle.s390x_operations.specs.declared.operator.Operator.TheVariants as O
use Rattle.s390x_operations.specs.declared.operator.SignedOperator.TheVariants.{Add}
use Rattle.s390x_operations.specs.declared.operator.LogicalOperator.TheVariants.{Subtract}
use Rattle.s390x_operations.specs.declared.effect.CodeRule.TheVariants.{Set}
use Rattle.s390x_typed_steps.specs.General.{low_halfword, low_word}
use Rattle.s390x_machine.specs.Computations.{computes_immediate, on_immediate, on_doublewords, signed_halfword, takes_from_stack}

-- the bits of a number with a minus sign
negated : (size : ℕ) → size < 32768 → low_halfword (neg_ℤ (pos size)) ≡ (65536 - size) % 65536
negated size lt =
    let e : neg_ℤ (pos size) +ℤ pos (1 * 65536) ≡ pos (65536 - size) = omega (arith, ints) in
    ap unsigned_abs (int_rem_euclid_is (neg_ℤ (pos size)) (pos 65536) 65536 1 (65536 - size) (omega arith) refl e)

-- they are read with their sign again
extended_back : (size : ℕ) → size < 32768 → signed_number Doubleword (extended_bits Signed Bits16 Doubleword ((65536 - size) % 65536)) ≡ neg_ℤ (pos size)
extended_back zero lt = refl
extended_back (suc n) lt =
    let b : ℕ = (65536 - suc n) % 65536 in
    let e : b % 65536 ≡ 65535 - n = omega (arith, lt) in
    let high : nat_lt (b % 65536) 32768 ≡ false = le-ltb (b % 65536) 32768 (omega (arith, lt)) in
    let x : extended_bits Signed Bits16 Doubleword b ≡ b % 65536 + 18446744073709486080 = ap (λ t. cond t (b % 65536) (b % 65536 + 18446744073709486080)) high in
    let y : ℕ = b % 65536 + 18446744073709486080 in
    let large : nat_lt y 9223372036854775808 ≡ false = le-ltb y 9223372036854775808 (omega arith) in
    ap (signed_number Doubleword) x ∙ ap (λ t. cond t (pos y) (pos y -ℤ pos 18446744073709551616)) large ∙ omega (arith, ints, lt)

low_twice : (z : ℤ) (m : ℕ) → z +ℤ pos (2 * 2 ^ 64) ≡ pos m → low Doubleword z ≡ m % 2 ^ 64
low_twice z m e = ap unsigned_abs (int_rem_euclid_is z (pos (2 ^ 64)) (2 ^ 64) 2 m (omega arith) refl e)

-- the sum with a minus sign is the difference
taken_away : (x size : ℕ) → size < 32768 → low Doubleword (signed_number Doubleword x +ℤ neg_ℤ (pos size)) ≡ (x + (18446744073709551616 - size)) % 18446744073709551616
taken_away x size lt = go (nat_lt x 9223372036854775808)
  where
    go : (t : Bool) → low Doubleword (cond t (pos x) (pos x -ℤ pos 18446744073709551616) +ℤ neg_ℤ (pos size)) ≡ (x + (18446744073709551616 - size)) % 18446744073709551616
    go true = low_twice (pos x +ℤ neg_ℤ (pos size)) (x + (36893488147419103232 - size)) (omega (arith, ints)) ∙ omega arith
    go false = low_twice (pos x -ℤ pos 18446744073709551616 +ℤ neg_ℤ (pos size)) (x + (18446744073709551616 - size)) (omega (arith, ints))

-- a number of 32 bits
low_of_word : (size : ℕ) → size < 32768 → extended_bits Unsigned Bits32 Doubleword (low_word (pos size)) ≡ size
low_of_word size lt = omega (arith, lt)

-- both rows leave the same value
pub same_value : (x size : ℕ) → size < 32768 → signed_value Add Doubleword x (extended_bits Signed Bits16 Doubleword (low_halfword (neg_ℤ (pos size)))) ≡ logical_value Subtract Doubleword x (extended_bits Unsigned Bits32 Doubleword (low_word (pos size)))
same_value x size lt =
    ap (λ b. low Doubleword (signed_number Doubleword x +ℤ signed_number Doubleword (extended_bits Signed Bits16 Doubleword b))) (negated size lt)
    ∙ ap (λ z. low Doubleword (signed_number Doubleword x +ℤ z)) (extended_back size lt)
    ∙ taken_away x size lt
    ∙ ap (λ n. (x + (18446744073709551616 - n)) % 18446744073709551616) (sym (low_of_word size lt))

-- an addition of the number with a minus sign takes it away
pub adds_negated : (size : ℕ) → size < 32768 → (r : Registers) → Refines (computes_immediate Set (on_immediate (on_doublewords (O.Signed Add)) signed_halfword) 15 15 (low_halfword (neg_ℤ (pos size))) r) (takes_from_stack size r)
adds_negated size lt r = record {
  access = refl;
  refused = refl;
  may_refuse = λ kind h. h;
  results = λ c t h. h ∙ ap (λ v. with_code t.code (set_sized Doubleword c.registers 15 v)) (same_value (r.general 15) size lt);
  code = λ c code h. tt;
}
