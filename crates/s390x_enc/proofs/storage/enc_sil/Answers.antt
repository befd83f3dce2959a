use Rattle.std.proofs.Common.{◌≡◌, ◌∙◌, refl, arith}
use Rattle.std.specs.Int.{cast_unsigned}
use Rattle.std.proofs.lemmas.Int.{ints}
use mir.Syntax.{w16}
use Rattle.s390x_base.specs.Regs.{number_of}
use Rattle.s390x_enc.proofs.ByteByByte.{moved}
use Rattle.s390x_enc.proofs.StorageCodes.{sil_is}
use Rattle.s390x_enc.proofs.storage.enc_sil.Goals as goal

pub returns : goal.returns
returns c =
    let e : c.cast_unsigned-bits.result ≡ cast_unsigned w16 c.args.i2 = omega (arith, ints) in (
      c.in_ok-base.ensures.0,
      sil_is c.args.opcode (number_of c.args.b1) c.args.d1 (cast_unsigned w16 c.args.i2) c.six.result c.ranges.opcode.fits (moved c.in_ok-base.ensures.1 c.in_ok-base.ensures.2) c.requires (moved e c.cast_unsigned-bits.type_inv)
          (c.six.ensures ∙ rw (c.high_byte.ensures, c.low_byte.ensures, c.nibbles.ensures.value, c.high_byte-2.ensures, c.low_byte-2.ensures, e, c.in_ok-base.ensures.1) refl),
    )
