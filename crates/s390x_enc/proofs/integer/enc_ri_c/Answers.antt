use Rattle.std.proofs.Common.{◌≡◌, ◌∙◌, refl, arith}
use Rattle.std.proofs.lemmas.Int.{ints}
use mir.Syntax.{w16}
use Rattle.s390x_format.specs.Distances.{half_of}
use Rattle.s390x_enc.proofs.ByteByByte.{moved}
use Rattle.s390x_enc.proofs.IntegerCodes.{ri_c_is}
use Rattle.s390x_enc.proofs.integer.enc_ri_c.Goals as goal

pub returns : goal.returns
returns c =
    let e : c.half16-half.result ≡ half_of w16 c.args.ri2 = omega (arith, ints) in
    ri_c_is c.args.opcode c.args.m1 (half_of w16 c.args.ri2) c.four.result c.requires.opcode c.requires.m1 (moved e c.half16-half.type_inv)
    (c.four.ensures ∙ rw (c.nibbles.ensures.value, c.high_byte.ensures, c.low_byte.ensures, e) refl)
