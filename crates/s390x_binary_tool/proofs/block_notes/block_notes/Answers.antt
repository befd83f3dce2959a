use Rattle.std.proofs.Common.{map, arith}
use Rattle.s390x_binary_tool.specs.Notes.{plain_note}
use Rattle.s390x_binary_tool.proofs.Telling.{block_told, blocks_told, blocks_went}
use Rattle.s390x_binary_tool.proofs.block_notes.block_notes.Goals as goal

pub put_insts-requires : goal.put_insts-requires
put_insts-requires c =
    rw c.deref-in-loop-number.ensures.value (block_told c.args.info.now.isa_flags c.args.state c.args.blocks.now c.loop-number.number c.index-blocks-number.result c.index-blocks-number.result (omega arith) c.index-blocks-number.is c.loop-number.invariant.told)

pub loop-number-preserved : goal.loop-number-preserved
loop-number-preserved c =
    record {
      notes = blocks_went c.args.info.now.isa_flags c.args.state c.args.base c.args.code.now.block_starts.items c.loop-number.left.now _ c.args.blocks.now c.loop-number.number c.index-blocks-number.result c.index-blocks-number.result _ _ (map plain_note c.loop-number.notes.items) _ _ (omega arith) c.index-blocks-number.is (rw c.deref.ensures.value at c.start_of-offset.ensures) c.in_ok-put_placed.ensures (rw c.deref-in-loop-number.ensures.value at c.in_ok-left.ensures.notes) (rw c.deref-in-loop-number.ensures.value at c.in_ok-left.ensures.left) c.loop-number.invariant.notes;
      told = blocks_told c.args.info.now.isa_flags c.args.state c.args.blocks.now c.loop-number.number c.index-blocks-number.result c.index-blocks-number.result (omega arith) c.index-blocks-number.is c.loop-number.invariant.told;
    }
