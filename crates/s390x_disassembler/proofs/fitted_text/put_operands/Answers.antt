use Rattle.std.proofs.Common.{◌++◌, ◌+◌, drop, sym, ap, ap₂, ◌∙◌, arith}
use Rattle.s390x_disassembler.specs.Text.{operands_text}
use Rattle.s390x_disassembler.specs.Fitted.{fitting_text}
use Rattle.s390x_disassembler.proofs.Fitting.{drop_next, left_away, written_next}
use Rattle.s390x_disassembler.proofs.fitted_text.put_operands.Goals.{then-is_written, else-is_written}
use Rattle.s390x_disassembler.proofs.fitted_text.put_operands.Goals as goal

pub loop-operand-preserved : goal.loop-operand-preserved
loop-operand-preserved c =
    let out = c.loop-operand.out.items in
    let separator = c.loop-operand.separator in
    let a = c.args.address in
    let letters = c.args.letters.now in
    let f = c.args.fields.now in
    let left = drop (c.loop-operand.operand-index + 1) c.args.operands.now in
    let before = ap (λ l. fitting_text (out ++ operands_text separator a letters f l)) (sym (drop_next c.args.operands.now c.loop-operand.operand-index _ (omega (arith, c.loop-operand-test.true)))) ∙ c.loop-operand.invariant in
    elim c.if-is_written.branch [
      | then-is_written w ↦
          ap₂ (λ t s. fitting_text (t.items ++ operands_text s a letters f left)) w.out-is w.separator-is
          ∙ written_next out w.put_byte.new.out.items w.put_operand.new.out.items separator a letters f _ left (sym c.is_written.ensures ∙ w.if-is_written.true) w.put_byte.ensures w.put_operand.ensures
          ∙ before
      | else-is_written w ↦
          ap₂ (λ t s. fitting_text (t.items ++ operands_text s a letters f left)) w.out-is w.separator-is
          ∙ left_away out separator a letters f _ left (sym c.is_written.ensures ∙ w.if-is_written.false)
          ∙ before
    ]
