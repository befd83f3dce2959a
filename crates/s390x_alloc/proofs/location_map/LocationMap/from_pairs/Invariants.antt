use Rattle.std.proofs.Common.{take}
use Rattle.s390x_alloc.specs.Locations.{IsApart, IsMapOf}
use Rattle.s390x_alloc.proofs.location_map.LocationMap.from_pairs.Given as goal

abbrev pub invariant-loop-pair : goal.invariant-loop-pair
invariant-loop-pair l = record {
  map : IsMapOf l.map (take l.pair-index l.pairs);
  apart : IsApart l.map;
}
