use Rattle.std.proofs.Common.{◌∙◌, refl}
use Rattle.s390x_base.specs.Regs.{number_of}
use Rattle.s390x_enc.proofs.ByteByByte.{moved}
use Rattle.s390x_enc.proofs.StorageCodes.{siy_is}
use Rattle.s390x_enc.proofs.storage.enc_siy.Goals as goal

pub returns : goal.returns
returns c = (
  c.in_ok-base.ensures.0,
  siy_is c.args.opcode (number_of c.args.b1) c.args.d1 c.args.i2 c.six.result c.ranges.opcode.fits (moved c.in_ok-base.ensures.1 c.in_ok-base.ensures.2) c.requires c.ranges.i2.fits
      (c.six.ensures ∙ rw (c.high_byte.ensures, c.nibbles.ensures.value, c.low_byte.ensures, c.in_ok-base.ensures.1) refl),
)
