use Rattle.std.proofs.Common.{◌∙◌, refl}
use Rattle.s390x_base.specs.Regs.{number_of}
use Rattle.s390x_enc.proofs.ByteByByte.{moved}
use Rattle.s390x_enc.proofs.StorageCodes.{si_is}
use Rattle.s390x_enc.proofs.storage.enc_si.Goals as goal

pub returns : goal.returns
returns c = (
  c.in_ok-base.ensures.0,
  si_is c.args.opcode (number_of c.args.b1) c.args.d1 c.args.i2 c.four.result c.requires.opcode (moved c.in_ok-base.ensures.1 c.in_ok-base.ensures.2) c.requires.d1 c.ranges.i2.fits
      (c.four.ensures ∙ rw (c.low_byte.ensures, c.nibbles.ensures.value, c.in_ok-base.ensures.1) refl),
)
