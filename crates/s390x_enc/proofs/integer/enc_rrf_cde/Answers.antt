use Rattle.std.proofs.Common.{◌∙◌, refl}
use Rattle.s390x_base.specs.Regs.{number_of}
use Rattle.s390x_enc.proofs.ByteByByte.{both, moved}
use Rattle.s390x_enc.proofs.IntegerCodes.{rrf_cde_is}
use Rattle.s390x_enc.proofs.integer.enc_rrf_cde.Goals as goal

pub returns : goal.returns
returns c = (
  both c.in_ok-n1.ensures.0 c.in_ok-n2.ensures.0,
  rrf_cde_is c.args.opcode (number_of c.args.r1) (number_of c.args.r2) c.args.m3 c.args.m4 c.four.result c.ranges.opcode.fits (moved c.in_ok-n1.ensures.1 c.in_ok-n1.ensures.2) (moved c.in_ok-n2.ensures.1 c.in_ok-n2.ensures.2) c.requires.m3 c.requires.m4
      (c.four.ensures ∙ rw (c.high_byte.ensures, c.low_byte.ensures, c.nibbles.ensures.value, c.nibbles-2.ensures.value, c.in_ok-n1.ensures.1, c.in_ok-n2.ensures.1) refl),
)
