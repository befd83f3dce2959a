use Rattle.std.proofs.Common.{ℕ, ◌+◌, ◌*◌, ◌^◌, ◌∙◌, sym, ap₂, arith}
use Rattle.s390x_lanes.specs.Places.{chosen_bit}
use Rattle.s390x_lanes.proofs.Building.{more_lt, build_more, build_none}
use Rattle.s390x_lanes.proofs.places.choose_bits.Goals as goal

pub loop-i-init : goal.loop-i-init
loop-i-init c = record { built = sym (build_none 1 _); small = omega arith }

pub loop-i-preserved : goal.loop-i-preserved
loop-i-preserved c = record {
  built =
      c.append-all.ensures ∙ ap₂ (λ (a b : ℕ). a * 2 ^ 1 + b) c.loop-i.invariant.built c.choose_bit-v.ensures.value
      ∙ sym (build_more 1 c.loop-i.i (chosen_bit c.args.x c.args.y));
  small = rw c.append-all.ensures (more_lt 1 c.loop-i.i c.loop-i.all c.choose_bit-v.result c.loop-i.invariant.small c.choose_bit-v.ensures.fits);
}
