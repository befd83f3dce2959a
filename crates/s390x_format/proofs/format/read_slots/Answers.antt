use Rattle.std.proofs.Common.{◌≡◌, ℕ, ◌^◌, ◌<◌, ap, sym, ◌∙◌, Some, refl, subst, arith, true}
use Rattle.s390x_format.proofs.FormatFacts.{layout_ok, layout_bits_of, length_small}
use Rattle.s390x_format.specs.Layout.{zero_bits}
use Rattle.s390x_format.specs.Formats.{layout_of}
use Rattle.s390x_format.proofs.Packing.{layout_slot}
use Rattle.s390x_format.proofs.Digits.{field_lt, zero_of, back}
use Rattle.s390x_format.proofs.OneReading.{fields_same}
use Rattle.s390x_format.proofs.format.read_slots.Goals as goal

pub overflow_cast-length : goal.overflow_cast-length
overflow_cast-length c = omega (arith, length_small c.args.kind, c.length.ensures)

pub overflow_mul-length : goal.overflow_mul-length
overflow_mul-length c = omega (arith, length_small c.args.kind, c.length.ensures)

pub unpack-requires-clause-layout : goal.unpack-requires-clause-layout
unpack-requires-clause-layout c = rw c.layout-parts.ensures (layout_ok c.args.kind)

pub unpack-requires-clause-total : goal.unpack-requires-clause-total
unpack-requires-clause-total c = rw (c.layout-parts.ensures, c.length.ensures) (sym (layout_bits_of c.args.kind))

pub pack-requires : goal.pack-requires
pack-requires c = rw c.layout-parts.ensures (layout_ok c.args.kind)

pub returns-then-pack-n-clause-fit : goal.returns-then-pack-n-clause-fit
returns-then-pack-n-clause-fit c =
    let un = rw c.layout-parts.ensures at c.unpack.ensures.values in
    (c.unpack.ensures.ten, λ k lt. rw (un k lt) (field_lt (layout_of c.args.kind) c.args.n k (layout_slot _ k (layout_ok c.args.kind) lt).0))

pub returns-then-pack-n-clause-complete : goal.returns-then-pack-n-clause-complete
returns-then-pack-n-clause-complete c gs r e =
    let un = rw c.layout-parts.ensures at c.unpack.ensures.values in
    ap Some (fields_same c.args.kind c.args.n gs c.unpack.result.slots r e c.unpack.ensures.ten un)

pub returns-then-pack-n-clause-exact : goal.returns-then-pack-n-clause-exact
returns-then-pack-n-clause-exact c lt =
    let e = rw c.layout-parts.ensures at (sym c.pack.ensures ∙ c.if-pack-n.true) in
    (λ t. subst (λ (z : ℕ). zero_bits (layout_of c.args.kind) z ≡ true) e (zero_of (layout_of c.args.kind) c.unpack.result.slots c.unpack.ensures.ten), λ z. refl)

pub returns-else-pack-n-clause-complete : goal.returns-else-pack-n-clause-complete
returns-else-pack-n-clause-complete c gs r e =
    let un = rw c.layout-parts.ensures at c.unpack.ensures.values in
    let same : c.unpack.result.slots ≡ gs = fields_same c.args.kind c.args.n gs c.unpack.result.slots r e c.unpack.ensures.ten un in
    absurd (c.if-pack-n.false (c.pack.ensures ∙ rw (c.layout-parts.ensures, same) e))

pub returns-else-pack-n-clause-exact : goal.returns-else-pack-n-clause-exact
returns-else-pack-n-clause-exact c lt =
    let un = rw c.layout-parts.ensures at c.unpack.ensures.values in (
      λ t. cc,
      λ z. absurd (c.if-pack-n.false (c.pack.ensures ∙ rw c.layout-parts.ensures
          (back (layout_of c.args.kind) c.args.n c.unpack.result.slots (λ k l. (layout_slot _ k (layout_ok c.args.kind) l).0) un c.unpack.ensures.ten
          (subst (λ (b : ℕ). c.args.n < 2 ^ b) (sym (layout_bits_of c.args.kind)) lt) z))),
    )
