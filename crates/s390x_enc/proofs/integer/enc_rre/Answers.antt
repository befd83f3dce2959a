use Rattle.std.proofs.Common.{◌∙◌, refl}
use Rattle.s390x_base.specs.Regs.{number_of}
use Rattle.s390x_enc.proofs.ByteByByte.{both, moved}
use Rattle.s390x_enc.proofs.IntegerCodes.{rre_is}
use Rattle.s390x_enc.proofs.integer.enc_rre.Goals as goal

pub returns : goal.returns
returns c = (
  both c.in_ok-n1.ensures.0 c.in_ok-n2.ensures.0,
  rre_is c.args.opcode (number_of c.args.r1) (number_of c.args.r2) c.four.result c.ranges.opcode.fits (moved c.in_ok-n1.ensures.1 c.in_ok-n1.ensures.2) (moved c.in_ok-n2.ensures.1 c.in_ok-n2.ensures.2)
      (c.four.ensures ∙ rw (c.high_byte.ensures, c.low_byte.ensures, c.nibbles.ensures.value, c.in_ok-n1.ensures.1, c.in_ok-n2.ensures.1) refl),
)
