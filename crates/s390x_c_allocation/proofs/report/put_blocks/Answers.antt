use Rattle.std.proofs.Common.{arith}
use Rattle.s390x_c_allocation.specs.Reports.{IsReportError, block_report, each}
use Rattle.s390x_c_allocation.proofs.Reporting.{again, entries_go_on, first_goes_on, stops}
use Rattle.s390x_c_allocation.proofs.report.put_blocks.Goals as goal

pub loop-number-preserved : goal.loop-number-preserved
loop-number-preserved c =
    record {
      entries = entries_go_on block_report c.args.blocks.now c.loop-number.number c.index-blocks-number.result c.index-blocks-number.result _ c.loop-number.out.items _ (omega arith) c.index-blocks-number.is c.in_ok-put_block.ensures.1 c.loop-number.invariant.entries;
      first = first_goes_on block_report c.args.blocks.now c.loop-number.number c.index-blocks-number.result c.index-blocks-number.result _ (omega arith) c.index-blocks-number.is c.in_ok-put_block.ensures.0 c.loop-number.invariant.first;
    }

pub returns-in_err-put_block : goal.returns-in_err-put_block
returns-in_err-put_block c =
    again _ (IsReportError (each block_report 0 c.args.blocks.now).first) c.from_residual.result _ c.from_residual.ensures.1
    (stops block_report c.args.blocks.now c.loop-number.number c.index-blocks-number.result c.index-blocks-number.result _ _ (omega arith) c.index-blocks-number.is c.in_err-put_block.ensures c.loop-number.invariant.first)
