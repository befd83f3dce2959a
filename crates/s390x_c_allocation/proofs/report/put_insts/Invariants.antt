use Rattle.std.proofs.Common.{◌≡◌, ◌++◌, drop}
use Rattle.s390x_c_allocation.specs.Reports.{each, inst_report_in}
use Rattle.s390x_c_allocation.proofs.report.put_insts.Given as goal

abbrev pub invariant-loop-instruction : goal.invariant-loop-instruction
invariant-loop-instruction l = record {
  entries : l.out.items ++ (each (inst_report_in l.block) l.instruction (drop l.instruction l.insts)).entries ≡ l.initial.out.items ++ (each (inst_report_in l.block) 0 l.insts).entries;
  first : (each (inst_report_in l.block) l.instruction (drop l.instruction l.insts)).first ≡ (each (inst_report_in l.block) 0 l.insts).first;
}
