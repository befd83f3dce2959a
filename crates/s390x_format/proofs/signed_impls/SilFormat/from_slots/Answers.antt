use Rattle.std.proofs.Common.{◌≡◌, ◌^◌, ◌<◌, refl, ap, ◌∙◌, lit<, arith, get_or}
use Rattle.std.proofs.lemmas.Int.{ints, of_z-to_z}
use mir.Val.{to_z, of_z}
use mir.Syntax.{w16}
use Rattle.s390x_format.specs.declared.kind.FormatKind.TheVariants.{Sil as KindSil}
use Rattle.s390x_format.specs.Fits.{slot_fits, ten_same}
use Rattle.s390x_format.specs.Distances.{unsigned_of, signed_of}
use Rattle.s390x_format.proofs.signed_impls.SilFormat.from_slots.Goals as goal

pub overflow_cast-slots : goal.overflow_cast-slots
overflow_cast-slots c = omega (arith, slot_fits KindSil c.args.slots.now 8 (lit< tt) c.requires)

pub overflow_cast-result : goal.overflow_cast-result
overflow_cast-result c = omega (arith, slot_fits KindSil c.args.slots.now 0 (lit< tt) c.requires)

pub overflow_cast-result-2 : goal.overflow_cast-result-2
overflow_cast-result-2 c = omega (arith, slot_fits KindSil c.args.slots.now 1 (lit< tt) c.requires)

pub invariant_of-result : goal.invariant_of-result
invariant_of-result c =
    let h : get_or c.args.slots.now 8 0 < 2 ^ 16 = slot_fits KindSil c.args.slots.now 8 (lit< tt) c.requires in
    let e : to_z w16 (of_z w16 c.cast_signed.result) ≡ signed_of w16 (get_or c.args.slots.now 8 0) = omega (arith, ints) in
    record {
      opcode_fits = slot_fits KindSil c.args.slots.now 0 (lit< tt) c.requires;
      b1_fits = slot_fits KindSil c.args.slots.now 1 (lit< tt) c.requires;
      d1_fits = slot_fits KindSil c.args.slots.now 9 (lit< tt) c.requires;
      bits_fit = rw (e, of_z-to_z w16 (get_or c.args.slots.now 8 0) h) h;
      i2_fits = rw e (ap (signed_of w16) (of_z-to_z w16 (get_or c.args.slots.now 8 0) h));
    }

pub returns : goal.returns
returns c =
    let h : get_or c.args.slots.now 8 0 < 2 ^ 16 = slot_fits KindSil c.args.slots.now 8 (lit< tt) c.requires in
    let e : to_z w16 (of_z w16 c.cast_signed.result) ≡ signed_of w16 (get_or c.args.slots.now 8 0) = omega (arith, ints) in
    ten_same c.args.slots.now _ _ _ _ _ _ _ _ _ _ c.requires.0 refl refl
    (omega (arith, slot_fits KindSil c.args.slots.now 2 (lit< tt) c.requires))
    (omega (arith, slot_fits KindSil c.args.slots.now 3 (lit< tt) c.requires))
    (omega (arith, slot_fits KindSil c.args.slots.now 4 (lit< tt) c.requires))
    (omega (arith, slot_fits KindSil c.args.slots.now 5 (lit< tt) c.requires))
    (omega (arith, slot_fits KindSil c.args.slots.now 6 (lit< tt) c.requires))
    (omega (arith, slot_fits KindSil c.args.slots.now 7 (lit< tt) c.requires)) (ap (unsigned_of w16) e ∙ of_z-to_z w16 (get_or c.args.slots.now 8 0) h) refl
