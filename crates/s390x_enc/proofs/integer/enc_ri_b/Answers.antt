use Rattle.std.proofs.Common.{◌≡◌, ◌∙◌, refl, arith}
use Rattle.std.proofs.lemmas.Int.{ints}
use mir.Syntax.{w16}
use Rattle.s390x_base.specs.Regs.{number_of}
use Rattle.s390x_format.specs.Distances.{half_of}
use Rattle.s390x_enc.proofs.ByteByByte.{moved}
use Rattle.s390x_enc.proofs.IntegerCodes.{ri_b_is}
use Rattle.s390x_enc.proofs.integer.enc_ri_b.Goals as goal

pub returns : goal.returns
returns c =
    let e : c.half16-half.result ≡ half_of w16 c.args.ri2 = omega (arith, ints) in (
      c.in_ok-n1.ensures.0,
      ri_b_is c.args.opcode (number_of c.args.r1) (half_of w16 c.args.ri2) c.four.result c.requires.opcode (moved c.in_ok-n1.ensures.1 c.in_ok-n1.ensures.2) (moved e c.half16-half.type_inv)
          (c.four.ensures ∙ rw (c.nibbles.ensures.value, c.high_byte.ensures, c.low_byte.ensures, e, c.in_ok-n1.ensures.1) refl),
    )
