use Rattle.std.proofs.Common.{string_bytes, arith}
use Rattle.s390x_listing.specs.Listings.{each, IsCause}
use Rattle.s390x_listing.specs.Operands.{block_operands}
use Rattle.s390x_listing.proofs.Listing.{again, bytes_go_on, cause_goes_on, stops}
use Rattle.s390x_listing.proofs.operands.put_blocks.Goals as goal

pub loop-number-preserved : goal.loop-number-preserved
loop-number-preserved c =
    record {
      bytes = bytes_go_on block_operands c.args.blocks.now c.loop-number.number c.index-blocks-number.result c.index-blocks-number.result _ (string_bytes c.loop-number.out) _ (omega arith) c.index-blocks-number.is c.in_ok-put_block.ensures.1 c.loop-number.invariant.bytes;
      cause = cause_goes_on block_operands c.args.blocks.now c.loop-number.number c.index-blocks-number.result c.index-blocks-number.result _ (omega arith) c.index-blocks-number.is c.in_ok-put_block.ensures.0 c.loop-number.invariant.cause;
    }

pub returns-in_err-put_block : goal.returns-in_err-put_block
returns-in_err-put_block c =
    again _ (IsCause (each block_operands 0 c.args.blocks.now).cause) c.from_residual.result _ c.from_residual.ensures.1
    (stops block_operands c.args.blocks.now c.loop-number.number c.index-blocks-number.result c.index-blocks-number.result _ _ (omega arith) c.index-blocks-number.is c.in_err-put_block.ensures c.loop-number.invariant.cause)
