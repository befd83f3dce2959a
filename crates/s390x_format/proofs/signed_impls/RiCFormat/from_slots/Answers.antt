use Rattle.std.proofs.Common.{◌≡◌, ◌^◌, ◌<◌, refl, ap, ◌∙◌, lit<, arith, get_or}
use Rattle.std.specs.Prelude.{ℤ, pos, ◌*ℤ◌}
use Rattle.std.proofs.lemmas.Int.{ints}
use mir.Val.{to_z, of_z}
use mir.Syntax.{w16, w64}
use Rattle.s390x_format.specs.declared.kind.FormatKind.TheVariants.{RiC as KindRiC}
use Rattle.s390x_format.specs.Fits.{slot_fits, ten_same}
use Rattle.s390x_format.specs.Distances.{half_of, signed_distance, half16_round_trip}
use Rattle.s390x_format.proofs.signed_impls.RiCFormat.from_slots.Goals as goal

pub overflow_cast-slots : goal.overflow_cast-slots
overflow_cast-slots c = omega (arith, slot_fits KindRiC c.args.slots.now 8 (lit< tt) c.requires)

pub overflow_cast-result : goal.overflow_cast-result
overflow_cast-result c = omega (arith, slot_fits KindRiC c.args.slots.now 0 (lit< tt) c.requires)

pub overflow_cast-result-2 : goal.overflow_cast-result-2
overflow_cast-result-2 c = omega (arith, slot_fits KindRiC c.args.slots.now 5 (lit< tt) c.requires)

pub invariant_of-result : goal.invariant_of-result
invariant_of-result c =
    let h : get_or c.args.slots.now 8 0 < 2 ^ 16 = slot_fits KindRiC c.args.slots.now 8 (lit< tt) c.requires in
    let f : c.from.result ≡ to_z w16 (get_or c.args.slots.now 8 0) = omega (arith, ints) in
    let d : to_z w64 (of_z w64 (pos 2 *ℤ to_z w64 (of_z w64 c.from.result))) ≡ pos 2 *ℤ c.from.result = omega (arith, ints) in
    let e : to_z w64 (of_z w64 (pos 2 *ℤ to_z w64 (of_z w64 c.from.result))) ≡ signed_distance w16 (get_or c.args.slots.now 8 0) = d ∙ ap (λ (z : ℤ). pos 2 *ℤ z) f in
    record {
      opcode_fits = slot_fits KindRiC c.args.slots.now 0 (lit< tt) c.requires;
      m1_fits = slot_fits KindRiC c.args.slots.now 5 (lit< tt) c.requires;
      half_fits = rw (e, half16_round_trip (get_or c.args.slots.now 8 0) h) h;
      ri2_fits = rw e (ap (signed_distance w16) (half16_round_trip (get_or c.args.slots.now 8 0) h));
    }

pub returns : goal.returns
returns c =
    let h : get_or c.args.slots.now 8 0 < 2 ^ 16 = slot_fits KindRiC c.args.slots.now 8 (lit< tt) c.requires in
    let f : c.from.result ≡ to_z w16 (get_or c.args.slots.now 8 0) = omega (arith, ints) in
    let d : to_z w64 (of_z w64 (pos 2 *ℤ to_z w64 (of_z w64 c.from.result))) ≡ pos 2 *ℤ c.from.result = omega (arith, ints) in
    let e : to_z w64 (of_z w64 (pos 2 *ℤ to_z w64 (of_z w64 c.from.result))) ≡ signed_distance w16 (get_or c.args.slots.now 8 0) = d ∙ ap (λ (z : ℤ). pos 2 *ℤ z) f in
    ten_same c.args.slots.now _ _ _ _ _ _ _ _ _ _ c.requires.0 refl
    (omega (arith, slot_fits KindRiC c.args.slots.now 1 (lit< tt) c.requires))
    (omega (arith, slot_fits KindRiC c.args.slots.now 2 (lit< tt) c.requires))
    (omega (arith, slot_fits KindRiC c.args.slots.now 3 (lit< tt) c.requires))
    (omega (arith, slot_fits KindRiC c.args.slots.now 4 (lit< tt) c.requires)) refl
    (omega (arith, slot_fits KindRiC c.args.slots.now 6 (lit< tt) c.requires))
    (omega (arith, slot_fits KindRiC c.args.slots.now 7 (lit< tt) c.requires)) (ap (half_of w16) e ∙ half16_round_trip (get_or c.args.slots.now 8 0) h)
    (omega (arith, slot_fits KindRiC c.args.slots.now 9 (lit< tt) c.requires))
