use Rattle.std.proofs.Common.{◌≡◌}
use Rattle.s390x_lanes.specs.Size.{element_bits}
use Rattle.s390x_lanes.specs.Lanes.{every_lane}
use Rattle.s390x_lanes.specs.Relation.{lane_compares}
use Rattle.s390x_lanes.proofs.ends.every_compare.Given as goal

abbrev pub invariant-loop-i : goal.invariant-loop-i
invariant-loop-i l = l.every ≡ every_lane l.i (lane_compares l.comparison (element_bits l.size) l.x l.y)
