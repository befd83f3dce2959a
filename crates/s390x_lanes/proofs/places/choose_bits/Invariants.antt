use Rattle.std.proofs.Common.{◌≡◌, ◌*◌, ◌^◌, ◌<◌}
use Rattle.s390x_lanes.specs.Lanes.{from_lanes}
use Rattle.s390x_lanes.specs.Places.{chosen_bit}
use Rattle.s390x_lanes.proofs.places.choose_bits.Given as goal

abbrev pub invariant-loop-i : goal.invariant-loop-i
invariant-loop-i l = record {
  built : l.all ≡ from_lanes 1 l.i (chosen_bit l.x l.y);
  small : l.all < 2 ^ (1 * l.i);
}
