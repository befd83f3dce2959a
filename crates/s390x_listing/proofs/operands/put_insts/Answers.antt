use Rattle.std.proofs.Common.{string_bytes, arith}
use Rattle.s390x_listing.specs.Listings.{each, IsCause}
use Rattle.s390x_listing.specs.Operands.{operands_line}
use Rattle.s390x_listing.proofs.Listing.{again, bytes_go_on, cause_goes_on, stops}
use Rattle.s390x_listing.proofs.operands.put_insts.Goals as goal

pub loop-inst-preserved : goal.loop-inst-preserved
loop-inst-preserved c =
    record {
      bytes = bytes_go_on (λ n i. operands_line i) c.args.insts.now c.loop-inst.inst-index c.inst-item.result c.inst-item.result _ (string_bytes c.loop-inst.out) _ (omega arith) c.inst-item.is c.in_ok-put_inst.ensures.1 c.loop-inst.invariant.bytes;
      cause = cause_goes_on (λ n i. operands_line i) c.args.insts.now c.loop-inst.inst-index c.inst-item.result c.inst-item.result _ (omega arith) c.inst-item.is c.in_ok-put_inst.ensures.0 c.loop-inst.invariant.cause;
    }

pub returns-in_err-put_inst : goal.returns-in_err-put_inst
returns-in_err-put_inst c =
    again _ (IsCause (each (λ n i. operands_line i) 0 c.args.insts.now).cause) c.from_residual.result _ c.from_residual.ensures.1
    (stops (λ n i. operands_line i) c.args.insts.now c.loop-inst.inst-index c.inst-item.result c.inst-item.result _ _ (omega arith) c.inst-item.is c.in_err-put_inst.ensures c.loop-inst.invariant.cause)
