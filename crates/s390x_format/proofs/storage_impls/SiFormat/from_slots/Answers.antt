use Rattle.std.proofs.Common.{refl, lit<, arith}
use Rattle.s390x_format.specs.declared.kind.FormatKind.TheVariants.{Si as KindSi}
use Rattle.s390x_format.specs.Fits.{slot_fits, ten_same}
use Rattle.s390x_format.proofs.storage_impls.SiFormat.from_slots.Goals as goal

pub overflow_cast-result : goal.overflow_cast-result
overflow_cast-result c = omega (arith, slot_fits KindSi c.args.slots.now 0 (lit< tt) c.requires)

pub overflow_cast-result-2 : goal.overflow_cast-result-2
overflow_cast-result-2 c = omega (arith, slot_fits KindSi c.args.slots.now 1 (lit< tt) c.requires)

pub overflow_cast-result-3 : goal.overflow_cast-result-3
overflow_cast-result-3 c = omega (arith, slot_fits KindSi c.args.slots.now 5 (lit< tt) c.requires)

pub invariant_of-result : goal.invariant_of-result
invariant_of-result c = record {
  opcode_fits = slot_fits KindSi c.args.slots.now 0 (lit< tt) c.requires;
  b1_fits = slot_fits KindSi c.args.slots.now 1 (lit< tt) c.requires;
  d1_fits = slot_fits KindSi c.args.slots.now 9 (lit< tt) c.requires;
  i2_fits = slot_fits KindSi c.args.slots.now 5 (lit< tt) c.requires;
}

pub returns : goal.returns
returns c =
    ten_same c.args.slots.now _ _ _ _ _ _ _ _ _ _ c.requires.0 refl refl
    (omega (arith, slot_fits KindSi c.args.slots.now 2 (lit< tt) c.requires))
    (omega (arith, slot_fits KindSi c.args.slots.now 3 (lit< tt) c.requires))
    (omega (arith, slot_fits KindSi c.args.slots.now 4 (lit< tt) c.requires)) refl
    (omega (arith, slot_fits KindSi c.args.slots.now 6 (lit< tt) c.requires))
    (omega (arith, slot_fits KindSi c.args.slots.now 7 (lit< tt) c.requires))
    (omega (arith, slot_fits KindSi c.args.slots.now 8 (lit< tt) c.requires)) refl
