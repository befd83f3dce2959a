use Rattle.std.proofs.Common.{◌∙◌, refl}
use Rattle.s390x_base.specs.Regs.{number_of}
use Rattle.s390x_enc.proofs.ByteByByte.{moved}
use Rattle.s390x_enc.proofs.IntegerCodes.{ri_a_is}
use Rattle.s390x_enc.proofs.integer.enc_ri_a.Goals as goal

pub returns : goal.returns
returns c = (
  c.in_ok-n1.ensures.0,
  ri_a_is c.args.opcode (number_of c.args.r1) c.args.i2 c.four.result c.requires (moved c.in_ok-n1.ensures.1 c.in_ok-n1.ensures.2) c.ranges.i2.fits
      (c.four.ensures ∙ rw (c.nibbles.ensures.value, c.high_byte.ensures, c.low_byte.ensures, c.in_ok-n1.ensures.1) refl),
)
