use Rattle.std.proofs.Common.{◌≡◌}
use Rattle.s390x_lanes.specs.Size.{element_bits}
use Rattle.s390x_lanes.specs.Lanes.{some_lane}
use Rattle.s390x_lanes.specs.Relation.{lane_compares}
use Rattle.s390x_lanes.proofs.ends.some_compare.Given as goal

abbrev pub invariant-loop-i : goal.invariant-loop-i
invariant-loop-i l = l.some ≡ some_lane l.i (lane_compares l.comparison (element_bits l.size) l.x l.y)
