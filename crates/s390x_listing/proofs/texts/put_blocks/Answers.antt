use Rattle.std.proofs.Common.{string_bytes, arith}
use Rattle.s390x_text_rows.specs.Texts.{RefusedBy}
use Rattle.s390x_text.proofs.Loops.{again}
use Rattle.s390x_listing.specs.Texts.{blocks_texts}
use Rattle.s390x_listing.proofs.Shown.{blocks_blamed, blocks_clear, blocks_went}
use Rattle.s390x_listing.proofs.texts.put_blocks.Goals as goal

pub loop-number-preserved : goal.loop-number-preserved
loop-number-preserved c =
    record {
      bytes = blocks_went c.args.info.now.isa_flags c.args.state c.args.blocks.now c.loop-number.number c.index-blocks-number.result c.index-blocks-number.result _ (string_bytes c.loop-number.out) _ (omega arith) c.index-blocks-number.is c.in_ok-put_block.ensures.1 c.loop-number.invariant.bytes;
      cause = blocks_clear c.args.info.now.isa_flags c.args.state c.args.blocks.now c.loop-number.number c.index-blocks-number.result c.index-blocks-number.result _ (omega arith) c.index-blocks-number.is c.in_ok-put_block.ensures.0 c.loop-number.invariant.cause;
    }

pub returns-in_err-put_block : goal.returns-in_err-put_block
returns-in_err-put_block c =
    again _ (RefusedBy (blocks_texts c.args.info.now.isa_flags c.args.state 0 c.args.blocks.now).cause) c.from_residual.result _ c.from_residual.ensures.1
    (blocks_blamed c.args.info.now.isa_flags c.args.state c.args.blocks.now c.loop-number.number c.index-blocks-number.result c.index-blocks-number.result _ _ (omega arith) c.index-blocks-number.is c.in_err-put_block.ensures c.loop-number.invariant.cause)
