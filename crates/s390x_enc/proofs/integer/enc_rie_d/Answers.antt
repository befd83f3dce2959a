use Rattle.std.proofs.Common.{◌∙◌, refl}
use Rattle.s390x_base.specs.Regs.{number_of}
use Rattle.s390x_enc.proofs.ByteByByte.{both, moved}
use Rattle.s390x_enc.proofs.IntegerCodes.{rie_d_is}
use Rattle.s390x_enc.proofs.integer.enc_rie_d.Goals as goal

pub returns : goal.returns
returns c = (
  both c.in_ok-n1.ensures.0 c.in_ok-n3.ensures.0,
  rie_d_is c.args.opcode (number_of c.args.r1) (number_of c.args.r3) c.args.i2 c.six.result c.ranges.opcode.fits (moved c.in_ok-n1.ensures.1 c.in_ok-n1.ensures.2) (moved c.in_ok-n3.ensures.1 c.in_ok-n3.ensures.2) c.ranges.i2.fits
      (c.six.ensures ∙ rw (c.high_byte.ensures, c.nibbles.ensures.value, c.high_byte-2.ensures, c.low_byte.ensures, c.low_byte-2.ensures, c.in_ok-n1.ensures.1, c.in_ok-n3.ensures.1) refl),
)
