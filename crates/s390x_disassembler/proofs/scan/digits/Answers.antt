use Rattle.std.proofs.Common.{◌-◌, ◌<◌, length, drop, sym, subst, ◌∙◌, arith}
use Rattle.std.proofs.lemmas.List.{take_all, length-drop}
use Rattle.std.specs.Char.{digit_value}
use Rattle.s390x_disassembler.proofs.Numbers.{left_end, left_done}
use Rattle.s390x_disassembler.proofs.scan.digits.Goals as goal

pub returns-in-None-clause-rest : goal.returns-in-None-clause-rest
returns-in-None-clause-rest c =
    take_all (length c.args.text.now - c.loop-i.i) (drop c.loop-i.i c.args.text.now) (omega (arith, length-drop c.loop-i.i c.args.text.now))
    ∙ left_end c.args.radix c.loop-i.i c.args.text.now _ c.loop-i-test.true (λ h. c.in-None.ensures.value (subst (λ x. digit_value x < c.args.radix) (sym c.from.ensures) h)) c.loop-i.invariant.rest

pub returns-clause-rest : goal.returns-clause-rest
returns-clause-rest c = left_done c.args.radix c.loop-i.i c.args.text.now _ c.loop-i-test.false c.loop-i.invariant.rest
