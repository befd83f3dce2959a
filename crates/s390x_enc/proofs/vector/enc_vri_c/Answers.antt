use Rattle.std.proofs.Common.{◌∙◌, refl}
use Rattle.s390x_base.specs.Regs.{number_of}
use Rattle.s390x_enc.proofs.ByteByByte.{both, moved}
use Rattle.s390x_enc.proofs.VectorCodes.{vri_c_is}
use Rattle.s390x_enc.proofs.vector.enc_vri_c.Goals as goal

pub returns : goal.returns
returns c = (
  both c.in_ok-n1.ensures.0 c.in_ok-n3.ensures.0,
  vri_c_is c.args.opcode (number_of c.args.v1) c.args.i2 (number_of c.args.v3) c.args.m4 c.six.result c.ranges.opcode.fits (moved c.in_ok-n1.ensures.1 c.in_ok-n1.ensures.2) c.ranges.i2.fits (moved c.in_ok-n3.ensures.1 c.in_ok-n3.ensures.2) c.requires
      (c.six.ensures ∙ rw (c.high_byte.ensures, c.nibbles.ensures.value, c.high_byte-2.ensures, c.low_byte.ensures, c.nibbles-2.ensures.value, c.low_byte-2.ensures, c.high_bits-x.ensures.value, c.in_ok-n1.ensures.1, c.in_ok-n3.ensures.1) refl),
)
