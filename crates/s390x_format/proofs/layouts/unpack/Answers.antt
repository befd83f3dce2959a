use Rattle.std.proofs.Common.{◌≡◌, ℕ, ◌+◌, ◌-◌, ◌/◌, ◌%◌, ◌^◌, drop, ap, ◌∙◌, arith, get_or}
use Rattle.s390x_format.proofs.Packing.{layout_narrow, narrow_at}
use Rattle.s390x_format.proofs.Unpacking.{no_part, bits_at, rest_le, field_done, digit_small, sum_small, sum_next, zeros_next, zeros_done}
use Rattle.s390x_format.specs.Layout.{bits}
use Rattle.s390x_format.proofs.layouts.unpack.Goals as goal

pub overflow_sub-rest : goal.overflow_sub-rest
overflow_sub-rest c = omega (arith, bits_at c.args.parts.now c.loop-part.part-index no_part c.loop-part-test.true)

pub digit_of-digit-requires-clause-rest : goal.digit_of-digit-requires-clause-rest
digit_of-digit-requires-clause-rest c = omega (arith, rest_le c.args.parts.now c.loop-part.part-index c.loop-part.rest c.requires.layout c.loop-part.invariant.rest)

pub digit_of-digit-requires-clause-width : goal.digit_of-digit-requires-clause-width
digit_of-digit-requires-clause-width c = (narrow_at c.args.parts.now c.loop-part.part-index _ (layout_narrow _ c.requires.layout) c.loop-part-test.true).1

pub add_digit-requires-clause-low : goal.add_digit-requires-clause-low
add_digit-requires-clause-low c = (narrow_at c.args.parts.now c.loop-part.part-index _ (layout_narrow _ c.requires.layout) c.loop-part-test.true).0

pub add_digit-requires-clause-digit : goal.add_digit-requires-clause-digit
add_digit-requires-clause-digit c =
    rw c.digit_of-digit.ensures (digit_small _ _ (narrow_at c.args.parts.now c.loop-part.part-index _ (layout_narrow _ c.requires.layout) c.loop-part-test.true).1)

pub add_digit-requires-clause-fits : goal.add_digit-requires-clause-fits
add_digit-requires-clause-fits c s =
    let e = bits_at c.args.parts.now c.loop-part.part-index no_part c.loop-part-test.true in
    let r : c.loop-part.rest - (get_or c.args.parts.now c.loop-part.part-index no_part).width ≡ bits (drop (c.loop-part.part-index + 1) c.args.parts.now) = omega (arith, e) in
    rw (c.digit_of-digit.ensures, r) (sum_small c.args.parts.now c.args.n c.loop-part.part-index _ _ c.requires.layout c.loop-part-test.true s (c.loop-part.invariant.fields _ s))

pub loop-part-preserved : goal.loop-part-preserved
loop-part-preserved c =
    let e = bits_at c.args.parts.now c.loop-part.part-index no_part c.loop-part-test.true in
    let r : c.loop-part.rest - (get_or c.args.parts.now c.loop-part.part-index no_part).width ≡ bits (drop (c.loop-part.part-index + 1) c.args.parts.now) = omega (arith, e) in
    record {
      rest = r;
      ten = c.add_digit.ensures.ten;
      fields = λ k lt. sum_next c.args.parts.now c.args.n k c.loop-part.part-index _ _ no_part _ c.digit_of-digit.result c.loop-part-test.true
          (c.digit_of-digit.ensures ∙ ap (λ (z : ℕ). c.args.n / 2 ^ z % 2 ^ (get_or c.args.parts.now c.loop-part.part-index no_part).width) r) (c.add_digit.ensures.values k lt) (c.loop-part.invariant.fields k lt);
      zeros = zeros_next c.args.parts.now c.args.n c.loop-part.part-index no_part c.loop-part.has_zeros _ _ c.digit_of-digit.result c.loop-part-test.true
          (c.digit_of-digit.ensures ∙ ap (λ (z : ℕ). c.args.n / 2 ^ z % 2 ^ (get_or c.args.parts.now c.loop-part.part-index no_part).width) r) c.has_more_zeros-has_zeros.ensures c.loop-part.invariant.zeros;
    }

pub returns-clause-ten : goal.returns-clause-ten
returns-clause-ten c = c.loop-part.invariant.ten

pub returns-clause-values : goal.returns-clause-values
returns-clause-values c k lt = field_done c.args.parts.now c.args.n k c.loop-part.part-index _ _ c.loop-part-test.false (c.loop-part.invariant.fields k lt)

pub returns-clause-zeros : goal.returns-clause-zeros
returns-clause-zeros c = zeros_done c.args.parts.now c.args.n c.loop-part.part-index c.loop-part.has_zeros _ c.loop-part-test.false c.loop-part.invariant.zeros
