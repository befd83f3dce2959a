use Rattle.std.proofs.Common.{◌≡◌, ◌*◌, ◌^◌, ◌<◌}
use Rattle.s390x_lanes.specs.Lanes.{from_lanes}
use Rattle.s390x_lanes.specs.Results.{result_lane}
use Rattle.s390x_lanes.proofs.results.result.Given as goal

abbrev pub invariant-loop-i : goal.invariant-loop-i
invariant-loop-i l = record {
  built : l.all ≡ from_lanes l.w l.i (result_lane l.operation l.first l.second l.third l.fourth);
  small : l.all < 2 ^ (l.w * l.i);
}
