use Rattle.std.proofs.Common.{◌≡◌}
use Rattle.s390x_lanes.specs.Size.{element_bits}
use Rattle.s390x_lanes.specs.Lanes.{some_lane}
use Rattle.s390x_lanes.specs.Relation.{lane_overflows}
use Rattle.s390x_lanes.proofs.ends.some_overflow.Given as goal

abbrev pub invariant-loop-i : goal.invariant-loop-i
invariant-loop-i l = l.some ≡ some_lane l.i (lane_overflows l.sign (element_bits l.size) l.x l.y)
