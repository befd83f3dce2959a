use Rattle.std.proofs.Common.{arith}
use Rattle.s390x_c_allocation.specs.Reports.{IsReportError, each, inst_report_in}
use Rattle.s390x_c_allocation.proofs.Reporting.{again, entries_go_on, first_goes_on, stops}
use Rattle.s390x_c_allocation.proofs.report.put_insts.Goals as goal

pub loop-instruction-preserved : goal.loop-instruction-preserved
loop-instruction-preserved c =
    record {
      entries = entries_go_on (inst_report_in c.args.block) c.args.insts.now c.loop-instruction.instruction c.index-insts-instruction.result c.index-insts-instruction.result _ c.loop-instruction.out.items _ (omega arith) c.index-insts-instruction.is c.in_ok-put_inst.ensures.1 c.loop-instruction.invariant.entries;
      first = first_goes_on (inst_report_in c.args.block) c.args.insts.now c.loop-instruction.instruction c.index-insts-instruction.result c.index-insts-instruction.result _ (omega arith) c.index-insts-instruction.is c.in_ok-put_inst.ensures.0 c.loop-instruction.invariant.first;
    }

pub returns-in_err-put_inst : goal.returns-in_err-put_inst
returns-in_err-put_inst c =
    again _ (IsReportError (each (inst_report_in c.args.block) 0 c.args.insts.now).first) c.from_residual.result _ c.from_residual.ensures.1
    (stops (inst_report_in c.args.block) c.args.insts.now c.loop-instruction.instruction c.index-insts-instruction.result c.index-insts-instruction.result _ _ (omega arith) c.index-insts-instruction.is c.in_err-put_inst.ensures c.loop-instruction.invariant.first)
