use Rattle.std.proofs.Common.{string_bytes, arith}
use Rattle.s390x_text_rows.specs.Texts.{RefusedBy}
use Rattle.s390x_text.proofs.Loops.{again}
use Rattle.s390x_listing.specs.Texts.{inst_texts}
use Rattle.s390x_listing.proofs.Shown.{insts_blamed, insts_clear, insts_went}
use Rattle.s390x_listing.proofs.texts.put_insts.Goals as goal

pub loop-inst-preserved : goal.loop-inst-preserved
loop-inst-preserved c =
    record {
      bytes = insts_went c.args.info.now.isa_flags c.loop-inst.state c.put_inst.new.state c.args.insts.now c.loop-inst.inst-index c.inst-item.result c.inst-item.result _ (string_bytes c.loop-inst.out) _ (omega arith) c.inst-item.is c.in_ok-put_inst.ensures.after c.in_ok-put_inst.ensures.answer.1 c.loop-inst.invariant.bytes;
      cause = insts_clear c.args.info.now.isa_flags c.loop-inst.state c.put_inst.new.state c.args.insts.now c.loop-inst.inst-index c.inst-item.result c.inst-item.result _ (omega arith) c.inst-item.is c.in_ok-put_inst.ensures.after c.in_ok-put_inst.ensures.answer.0 c.loop-inst.invariant.cause;
    }

pub returns-in_err-put_inst : goal.returns-in_err-put_inst
returns-in_err-put_inst c =
    again _ (RefusedBy (inst_texts c.args.info.now.isa_flags c.args.start c.args.insts.now).cause) c.from_residual.result _ c.from_residual.ensures.1
    (insts_blamed c.args.info.now.isa_flags c.loop-inst.state c.args.insts.now c.loop-inst.inst-index c.inst-item.result c.inst-item.result _ _ (omega arith) c.inst-item.is c.in_err-put_inst.ensures.answer c.loop-inst.invariant.cause)
