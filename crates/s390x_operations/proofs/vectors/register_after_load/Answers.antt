use Rattle.std.proofs.Common.{◌≡◌, ℕ, ◌+◌, ◌*◌, ◌^◌, ◌<◌, ◌∙◌, sym, ap, ap₂, arith}
use Rattle.std.proofs.lemmas.Nat.{pow_pos}
use Rattle.s390x_lanes.specs.Size.{element_bits, lane_count}
use Rattle.s390x_lanes.specs.Lanes.{from_lanes}
use Rattle.s390x_lanes.specs.declared.size.ElementSize.{ElementSize}
use Rattle.s390x_operations.specs.Layouts.{layout_size, loaded_lane}
use Rattle.s390x_operations.specs.Vectors.{register_after_load}
use Rattle.s390x_operations.specs.declared.effect.VectorLayout.{VectorLayout}
use Rattle.s390x_operations.proofs.Layouts.{loaded_is}
use Rattle.s390x_lanes.proofs.Building.{whole, more_lt, room, build_more, build_none}
use Rattle.s390x_operations.proofs.vectors.register_after_load.Goals as goal

pub returns-in-Whole : goal.returns-in-Whole
returns-in-Whole c = sym (ap (λ (l : VectorLayout). register_after_load l c.args.old c.args.x) c.in-Whole.is)

pub loop-i-init : goal.loop-i-init
loop-i-init c = record { built = sym (build_none c.bits-w.result _); small = pow_pos (c.bits-w.result * 0) }

pub append-all-requires-clause-fits : goal.append-all-requires-clause-fits
append-all-requires-clause-fits c =
    let e : c.bits-w.result * c.lane_count-n.result ≡ 128 = rw (c.bits-w.ensures, c.lane_count-n.ensures) (whole c.layout_size-size.result) in
    let g : c.loaded_lane-value.result < 2 ^ c.bits-w.result = rw (c.bits-w.ensures, c.layout_size-size.ensures) c.loaded_lane-value.ensures.fits in
    room c.bits-w.result c.lane_count-n.result c.loop-i.i c.loop-i.all c.loaded_lane-value.result e c.loop-i-test.true c.loop-i.invariant.small g

pub loop-i-preserved : goal.loop-i-preserved
loop-i-preserved c =
    let g : c.loaded_lane-value.result < 2 ^ c.bits-w.result = rw (c.bits-w.ensures, c.layout_size-size.ensures) c.loaded_lane-value.ensures.fits in
    record {
      built =
          c.append-all.ensures ∙ ap₂ (λ (a b : ℕ). a * 2 ^ c.bits-w.result + b) c.loop-i.invariant.built c.loaded_lane-value.ensures.value
          ∙ sym (build_more c.bits-w.result c.loop-i.i (loaded_lane c.args.layout c.args.old c.args.x));
      small = rw c.append-all.ensures (more_lt c.bits-w.result c.loop-i.i c.loop-i.all c.loaded_lane-value.result c.loop-i.invariant.small g);
    }

pub returns : goal.returns
returns c =
    let f = loaded_lane c.args.layout c.args.old c.args.x in
    let i_is : c.loop-i.i ≡ c.lane_count-n.result = omega (arith, c.loop-i-test.false, c.loop-i.auto.i-end) in
    let n : c.loop-i.i ≡ lane_count (layout_size c.args.layout) = i_is ∙ c.lane_count-n.ensures ∙ ap (λ (z : ElementSize). lane_count z) c.layout_size-size.ensures in
    let w : c.bits-w.result ≡ element_bits (layout_size c.args.layout) = c.bits-w.ensures ∙ ap (λ (z : ElementSize). element_bits z) c.layout_size-size.ensures in
    c.loop-i.invariant.built ∙ ap₂ (λ (a b : ℕ). from_lanes a b f) w n ∙ sym (loaded_is c.args.layout c.args.old c.args.x)
