use Rattle.std.proofs.Common.{◌∙◌, refl}
use Rattle.s390x_base.specs.Regs.{number_of}
use Rattle.s390x_enc.proofs.ByteByByte.{both, moved}
use Rattle.s390x_enc.proofs.IntegerCodes.{rie_f_is}
use Rattle.s390x_enc.proofs.integer.enc_rie_f.Goals as goal

pub returns : goal.returns
returns c = (
  both c.in_ok-n1.ensures.0 c.in_ok-n2.ensures.0,
  rie_f_is c.args.opcode (number_of c.args.r1) (number_of c.args.r2) c.args.i3 c.args.i4 c.args.i5 c.six.result c.ranges.opcode.fits (moved c.in_ok-n1.ensures.1 c.in_ok-n1.ensures.2) (moved c.in_ok-n2.ensures.1 c.in_ok-n2.ensures.2) c.ranges.i3.fits c.ranges.i4.fits c.ranges.i5.fits
      (c.six.ensures ∙ rw (c.high_byte.ensures, c.nibbles.ensures.value, c.low_byte.ensures, c.in_ok-n1.ensures.1, c.in_ok-n2.ensures.1) refl),
)
