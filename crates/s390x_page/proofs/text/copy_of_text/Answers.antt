use Rattle.std.proofs.Common.{sym, subst, arith}
use Rattle.s390x_page.specs.Texts.{Holds}
use Rattle.s390x_disassembler.proofs.Fitting.{fits}
use Rattle.s390x_page.proofs.text.copy_of_text.Goals as goal

-- a text has room in itself
pub returns : goal.returns
returns c =
    subst (λ text. Holds (record { length = c.len.result; bytes = c.loop-i.bytes }) text)
    (sym (fits c.args.text.now.items (omega (arith, c.len.ensures.value, c.len.ensures.fits))))
    (record { count = c.len.ensures.value; each = λ i lt. c.loop-i.invariant.filled i (omega (arith, lt, c.loop-i-test.false, c.len-i-end.ensures.value)) })
