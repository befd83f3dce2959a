use Rattle.std.proofs.Common.{◌≡◌, ℕ, ◌+◌, ◌*◌, ◌^◌, ◌<◌, ◌∙◌, sym, ap₂, subst, arith}
use Rattle.std.proofs.lemmas.Nat.{pow_pos}
use Rattle.s390x_lanes.specs.Lanes.{from_lanes}
use Rattle.s390x_lanes.specs.Results.{result_lane}
use Rattle.s390x_lanes.specs.Size.{element_bits, lane_count}
use Rattle.s390x_lanes.specs.declared.size.ElementSize.{ElementSize}
use Rattle.s390x_lanes.specs.declared.size.ElementSize.TheVariants.{Quadword}
use Rattle.s390x_lanes.proofs.Building.{whole, more_lt, room, build_more, build_none, build_one}
use Rattle.s390x_lanes.proofs.results.result.Goals as goal

pub result_lane-requires-clause-inside : goal.result_lane-requires-clause-inside
result_lane-requires-clause-inside c =
    let one : 0 < lane_count Quadword = omega arith in
    subst (λ (size : ElementSize). 0 < lane_count size) (sym c.in-Quadword.is ∙ c.result_size-size.ensures) one

pub returns-in-Quadword : goal.returns-in-Quadword
returns-in-Quadword c =
    let f : ℕ → ℕ = result_lane c.args.operation c.args.first c.args.second c.args.third c.args.fourth in
    c.result_lane.ensures.value ∙ subst (λ (size : ElementSize). f 0 ≡ from_lanes (element_bits size) (lane_count size) f) (sym c.in-Quadword.is ∙ c.result_size-size.ensures) (sym (build_one 128 f))

pub loop-i-init : goal.loop-i-init
loop-i-init c = record { built = sym (build_none c.bits-w.result _); small = pow_pos (c.bits-w.result * 0) }

pub append-all-requires-clause-fits : goal.append-all-requires-clause-fits
append-all-requires-clause-fits c =
    let e : c.bits-w.result * c.lane_count-n.result ≡ 128 = rw (c.bits-w.ensures, c.lane_count-n.ensures) (whole c.result_size-size.result) in
    let g : c.result_lane-v.result < 2 ^ c.bits-w.result = rw (c.bits-w.ensures, c.result_size-size.ensures) c.result_lane-v.ensures.fits in
    room c.bits-w.result c.lane_count-n.result c.loop-i.i c.loop-i.all c.result_lane-v.result e c.loop-i-test.true c.loop-i.invariant.small g

pub loop-i-preserved : goal.loop-i-preserved
loop-i-preserved c =
    let g : c.result_lane-v.result < 2 ^ c.bits-w.result = rw (c.bits-w.ensures, c.result_size-size.ensures) c.result_lane-v.ensures.fits in
    record {
      built =
          c.append-all.ensures ∙ ap₂ (λ (a b : ℕ). a * 2 ^ c.bits-w.result + b) c.loop-i.invariant.built c.result_lane-v.ensures.value
          ∙ sym (build_more c.bits-w.result c.loop-i.i (result_lane c.args.operation c.args.first c.args.second c.args.third c.args.fourth));
      small = rw c.append-all.ensures (more_lt c.bits-w.result c.loop-i.i c.loop-i.all c.result_lane-v.result c.loop-i.invariant.small g);
    }
