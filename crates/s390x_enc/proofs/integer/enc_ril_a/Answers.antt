use Rattle.std.proofs.Common.{◌∙◌, refl}
use Rattle.s390x_base.specs.Regs.{number_of}
use Rattle.s390x_enc.proofs.ByteByByte.{moved}
use Rattle.s390x_enc.proofs.IntegerCodes.{ril_a_is}
use Rattle.s390x_enc.proofs.integer.enc_ril_a.Goals as goal

pub returns : goal.returns
returns c = (
  c.in_ok-n1.ensures.0,
  ril_a_is c.args.opcode (number_of c.args.r1) c.args.i2 c.six.result c.requires (moved c.in_ok-n1.ensures.1 c.in_ok-n1.ensures.2) c.ranges.i2.fits
      (c.six.ensures ∙ rw (c.nibbles.ensures.value, c.high_byte.ensures, c.low_byte.ensures, c.high_byte-2.ensures, c.low_byte-2.ensures, c.high_half.ensures, c.high_half-2.ensures, c.low_half.ensures, c.low_half-2.ensures, c.in_ok-n1.ensures.1) refl),
)
