use Rattle.std.proofs.Common.{◌≡◌, drop}
use Rattle.s390x_machine.specs.Regions.{is_held, byte_of}
use Rattle.s390x_machine.specs.State.{memory_of}
use Rattle.s390x_execution.specs.Start.{AllRegionsFit, with_regions, no_memory}
use Rattle.s390x_execution.proofs.start.start_memory.Given as goal

-- the regions that are left make the memory whole, and fit
abbrev pub invariant-loop-region : goal.invariant-loop-region
invariant-loop-region l = record {
  fit : AllRegionsFit (drop l.region-index l.regions);
  added : with_regions (drop l.region-index l.regions) (memory_of (is_held l.memory) (byte_of l.memory)) ≡ with_regions l.regions no_memory;
}
