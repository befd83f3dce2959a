use Rattle.std.proofs.Common.{◌∙◌, refl}
use Rattle.s390x_base.specs.Regs.{number_of}
use Rattle.s390x_enc.proofs.ByteByByte.{both, moved}
use Rattle.s390x_enc.proofs.VectorCodes.{vrr_e_is}
use Rattle.s390x_enc.proofs.vector.enc_vrr_e.Goals as goal

pub returns : goal.returns
returns c = (
  both (both (both c.in_ok-n1.ensures.0 c.in_ok-n2.ensures.0) c.in_ok-n3.ensures.0) c.in_ok-n4.ensures.0,
  vrr_e_is c.args.opcode (number_of c.args.v1) (number_of c.args.v2) (number_of c.args.v3) (number_of c.args.v4) c.args.m5 c.args.m6 c.six.result c.ranges.opcode.fits (moved c.in_ok-n1.ensures.1 c.in_ok-n1.ensures.2) (moved c.in_ok-n2.ensures.1 c.in_ok-n2.ensures.2) (moved c.in_ok-n3.ensures.1 c.in_ok-n3.ensures.2) (moved c.in_ok-n4.ensures.1 c.in_ok-n4.ensures.2) c.requires.m5 c.requires.m6
      (c.six.ensures ∙ rw (c.high_byte.ensures, c.nibbles.ensures.value, c.nibbles-2.ensures.value, c.nibbles-3.ensures.value, c.nibbles-4.ensures.value, c.low_byte.ensures, c.high_bits-x.ensures.value, c.in_ok-n1.ensures.1, c.in_ok-n2.ensures.1, c.in_ok-n3.ensures.1, c.in_ok-n4.ensures.1) refl),
)
