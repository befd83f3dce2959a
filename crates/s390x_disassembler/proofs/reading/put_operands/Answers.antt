use Rattle.std.proofs.Common.{sym, subst, ◌∙◌, inr, refl, drop_of_length-le}
use Rattle.s390x_disassembler.specs.declared.forms.Operand.TheVariants.{Target}
use Rattle.s390x_disassembler.proofs.OperandList.{IsLeft, left_then, left_else, all_known}
use Rattle.s390x_disassembler.proofs.reading.put_operands.Goals.{then-begins, else-begins}
use Rattle.s390x_disassembler.proofs.reading.put_operands.Goals as goal

pub loop-operand-preserved : goal.loop-operand-preserved
loop-operand-preserved c = elim c.if-begins.branch [
  | then-begins w ↦ record {
    ten = c.if-begins.array_long;
    separator = rw w.separator-is (inr refl);
    left = λ letters values more h g. rw (w.slots-is, w.separator-is, w.rest-is)
        (left_then c.args.format c.args.address c.loop-operand.separator c.loop-operand.operand-index c.args.operands.now _ c.loop-operand.slots w.put_operand-rest.new.slots c.loop-operand.rest.now w.put_operand-rest.result.now
        c.loop-operand.invariant.separator (sym c.begins.ensures ∙ w.if-begins.true) c.loop-operand-test.true w.put_operand-rest.ensures.read letters values more (c.loop-operand.invariant.left letters values more h g));
  }
  | else-begins w ↦ record {
    ten = c.if-begins.array_long;
    separator = rw w.separator-is c.loop-operand.invariant.separator;
    left = λ letters values more h g. rw (w.slots-is, w.separator-is, w.rest-is)
        (left_else c.args.format c.args.address c.loop-operand.separator c.loop-operand.operand-index c.args.operands.now Target c.loop-operand.slots c.loop-operand.rest.now
        (sym c.begins.ensures ∙ w.if-begins.false) c.loop-operand-test.true letters values more (c.loop-operand.invariant.left letters values more h g));
  }
]

pub returns-clause-read : goal.returns-clause-read
returns-clause-read c = λ letters values more h g.
    all_known c.args.format c.args.address c.loop-operand.separator letters values c.loop-operand.slots c.loop-operand.rest.now more c.loop-operand.invariant.ten
    (subst (λ os. IsLeft c.args.format c.args.address c.loop-operand.separator letters os values c.loop-operand.slots c.loop-operand.rest.now more) (drop_of_length-le c.args.operands.now c.loop-operand-test.false) (c.loop-operand.invariant.left letters values more h g))
