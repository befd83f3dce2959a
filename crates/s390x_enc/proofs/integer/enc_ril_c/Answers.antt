use Rattle.std.proofs.Common.{◌/◌, ◌∙◌, refl, arith}
use Rattle.s390x_enc.proofs.IntegerCodes.{ril_c_is}
use Rattle.s390x_enc.proofs.integer.enc_ril_c.Goals as goal

pub returns : goal.returns
returns c =
    ril_c_is c.args.opcode c.args.m1 (c.args.ri2 / 2) c.six.result c.requires.opcode c.requires.m1 (omega arith)
    (c.six.ensures ∙ rw (c.nibbles.ensures.value, c.high_byte.ensures, c.low_byte.ensures, c.high_byte-2.ensures, c.low_byte-2.ensures, c.high_half.ensures, c.high_half-2.ensures, c.low_half.ensures, c.low_half-2.ensures, c.half32-half.ensures) refl)
