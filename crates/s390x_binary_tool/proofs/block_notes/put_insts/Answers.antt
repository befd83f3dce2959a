use Rattle.std.proofs.Common.{map, arith}
use Rattle.s390x_binary_tool.specs.Notes.{plain_note}
use Rattle.s390x_binary_tool.proofs.Telling.{inst_told, insts_told, insts_went, starts_went}
use Rattle.s390x_binary_tool.proofs.block_notes.put_insts.Goals as goal

pub put_inst-requires : goal.put_inst-requires
put_inst-requires c =
    inst_told c.args.info.now.isa_flags c.loop-inst.state c.args.insts.now c.loop-inst.inst-index c.inst-item.result c.inst-item.result (omega arith) c.inst-item.is c.loop-inst.invariant.told

pub loop-inst-preserved : goal.loop-inst-preserved
loop-inst-preserved c =
    record {
      notes = insts_went c.args.info.now.isa_flags c.loop-inst.state c.put_inst.new.state c.loop-inst.left.now _ c.args.insts.now c.loop-inst.inst-index c.inst-item.result c.inst-item.result _ _ (map plain_note c.loop-inst.notes.items) _ (omega arith) c.inst-item.is c.start_of-offset.ensures c.in_ok-left.ensures c.in_ok-put_inst.ensures.after c.in_ok-put_inst.ensures.notes c.loop-inst.invariant.notes;
      starts = starts_went c.loop-inst.state c.put_inst.new.state c.loop-inst.left.now _ _ c.args.insts.now c.loop-inst.inst-index c.inst-item.result c.inst-item.result (omega arith) c.inst-item.is c.in_ok-left.ensures c.in_ok-put_inst.ensures.after c.loop-inst.invariant.starts;
      told = insts_told c.args.info.now.isa_flags c.loop-inst.state c.put_inst.new.state c.args.insts.now c.loop-inst.inst-index c.inst-item.result c.inst-item.result (omega arith) c.inst-item.is c.in_ok-put_inst.ensures.after c.loop-inst.invariant.told;
    }
