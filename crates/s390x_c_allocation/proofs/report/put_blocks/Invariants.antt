use Rattle.std.proofs.Common.{◌≡◌, ◌++◌, drop}
use Rattle.s390x_c_allocation.specs.Reports.{block_report, each}
use Rattle.s390x_c_allocation.proofs.report.put_blocks.Given as goal

abbrev pub invariant-loop-number : goal.invariant-loop-number
invariant-loop-number l = record {
  entries : l.out.items ++ (each block_report l.number (drop l.number l.blocks)).entries ≡ l.initial.out.items ++ (each block_report 0 l.blocks).entries;
  first : (each block_report l.number (drop l.number l.blocks)).first ≡ (each block_report 0 l.blocks).first;
}
