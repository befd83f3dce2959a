use Rattle.std.proofs.Common.{◌++◌, ◌+◌, drop, sym, ap, ◌∙◌, arith}
use Rattle.s390x_disassembler.specs.Fitted.{fitting_text}
use Rattle.s390x_disassembler.proofs.Fitting.{behind, drop_next}
use Rattle.s390x_disassembler.proofs.room.put_bytes.Goals as goal

pub loop-byte-preserved : goal.loop-byte-preserved
loop-byte-preserved c =
    behind c.loop-byte.out.items c.put_byte.new.out.items _ (drop (c.loop-byte.byte-index + 1) c.args.bytes.now) c.put_byte.ensures
    ∙ ap (λ l. fitting_text (c.loop-byte.out.items ++ l)) (sym (drop_next c.args.bytes.now c.loop-byte.byte-index _ (omega (arith, c.loop-byte-test.true))))
    ∙ c.loop-byte.invariant
