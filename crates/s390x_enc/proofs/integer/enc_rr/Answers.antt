use Rattle.std.proofs.Common.{◌∙◌, refl}
use Rattle.s390x_base.specs.Regs.{number_of}
use Rattle.s390x_enc.proofs.ByteByByte.{both, moved}
use Rattle.s390x_enc.proofs.IntegerCodes.{rr_is}
use Rattle.s390x_enc.proofs.integer.enc_rr.Goals as goal

pub returns : goal.returns
returns c = (
  both c.in_ok-n1.ensures.0 c.in_ok-n2.ensures.0,
  rr_is c.args.opcode (number_of c.args.r1) (number_of c.args.r2) c.two.result c.requires (moved c.in_ok-n1.ensures.1 c.in_ok-n1.ensures.2) (moved c.in_ok-n2.ensures.1 c.in_ok-n2.ensures.2)
      (c.two.ensures ∙ rw (c.low_byte.ensures, c.nibbles.ensures.value, c.in_ok-n1.ensures.1, c.in_ok-n2.ensures.1) refl),
)
