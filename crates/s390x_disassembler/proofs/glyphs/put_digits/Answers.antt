use Rattle.std.proofs.Common.{◌-◌, refl, subst, ◌∙◌, arith}
use Rattle.s390x_disassembler.specs.Fitted.{Adds}
use Rattle.s390x_disassembler.proofs.Digits.{all_behind, digits_onto_nothing, finished}
use Rattle.s390x_disassembler.proofs.glyphs.put_digits.Goals as goal

pub loop-rest-init : goal.loop-rest-init
loop-rest-init c = record {
  long = refl;
  room = (omega arith, omega arith);
  small = omega (arith, c.ranges.n.fits);
  same = digits_onto_nothing c.args.base c.args.n;
}

pub returns : goal.returns
returns c =
    let i = c.loop-rest.invariant in
    subst (λ text. Adds c.args.out.now.items text c.put_bytes.new.out.items)
    (all_behind c.loop-rest.buffer (c.loop-rest.start - 1) c.glyph-2.result i.long ∙ finished c.args.base c.args.n c.loop-rest.rest c.loop-rest.start c.glyph-2.result c.loop-rest.buffer (omega (arith, c.loop-rest-test.false)) i.room.0 (omega (arith, i.long, i.room.1)) c.glyph-2.ensures i.same)
    c.put_bytes.ensures
