use Rattle.std.proofs.Common.{◌∙◌, refl}
use Rattle.s390x_base.specs.Regs.{number_of}
use Rattle.s390x_enc.proofs.ByteByByte.{both, moved}
use Rattle.s390x_enc.proofs.StorageCodes.{rxy_is}
use Rattle.s390x_enc.proofs.storage.enc_rxy.Goals as goal

pub returns : goal.returns
returns c = (
  both (both c.in_ok-n1.ensures.0 c.in_ok-base.ensures.0) c.in_ok-index.ensures.0,
  rxy_is c.args.opcode (number_of c.args.r1) (number_of c.args.b2) (number_of c.args.x2) c.args.d2 c.six.result c.ranges.opcode.fits (moved c.in_ok-n1.ensures.1 c.in_ok-n1.ensures.2) (moved c.in_ok-base.ensures.1 c.in_ok-base.ensures.2) (moved c.in_ok-index.ensures.1 c.in_ok-index.ensures.2) c.requires
      (c.six.ensures ∙ rw (c.high_byte.ensures, c.nibbles.ensures.value, c.nibbles-2.ensures.value, c.low_byte.ensures, c.in_ok-n1.ensures.1, c.in_ok-base.ensures.1, c.in_ok-index.ensures.1) refl),
)
