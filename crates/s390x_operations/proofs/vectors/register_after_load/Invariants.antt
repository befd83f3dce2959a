use Rattle.std.proofs.Common.{◌≡◌, ◌*◌, ◌^◌, ◌<◌}
use Rattle.s390x_lanes.specs.Lanes.{from_lanes}
use Rattle.s390x_operations.specs.Layouts.{loaded_lane}
use Rattle.s390x_operations.proofs.vectors.register_after_load.Given as goal

abbrev pub invariant-loop-i : goal.invariant-loop-i
invariant-loop-i l = record {
  built : l.all ≡ from_lanes l.w l.i (loaded_lane l.layout l.old l.x);
  small : l.all < 2 ^ (l.w * l.i);
}
