use Rattle.std.proofs.Common.{◌∙◌, refl}
use Rattle.s390x_enc.proofs.IntegerCodes.{e_is}
use Rattle.s390x_enc.proofs.integer.enc_e.Goals as goal

pub returns : goal.returns
returns c =
    e_is c.args.opcode c.two.result c.ranges.opcode.fits
    (c.two.ensures ∙ rw (c.high_byte.ensures, c.low_byte.ensures) refl)
