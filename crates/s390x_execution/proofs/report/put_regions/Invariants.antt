use Rattle.std.proofs.Common.{◌≡◌, ◌++◌, drop, map, string_bytes}
use Rattle.s390x_machine.specs.State.{memory_of}
use Rattle.s390x_job.specs.Jobs.{lines_text}
use Rattle.s390x_execution.specs.Text.{AllHeld, region_line}
use Rattle.s390x_execution.proofs.report.put_regions.Given as goal

-- what is written, with the lines of the regions that are left, which are accessible
abbrev pub invariant-loop-region : goal.invariant-loop-region
invariant-loop-region g l = record {
  held : AllHeld (g.M.Memory.held l.memory) (drop l.region-index l.regions);
  written : string_bytes l.out ++ lines_text (map (region_line (memory_of (g.M.Memory.held l.memory) (g.M.Memory.byte l.memory))) (drop l.region-index l.regions))
      ≡ string_bytes l.initial.out ++ lines_text (map (region_line (memory_of (g.M.Memory.held l.memory) (g.M.Memory.byte l.memory))) l.regions);
}
