use Rattle.std.proofs.Common.{◌∙◌}
use Rattle.s390x_lanes.proofs.Signed.{saturated_bits_is}
use Rattle.s390x_lanes.proofs.unary.saturate.Goals as goal

pub returns-in-Signed-clause-value : goal.returns-in-Signed-clause-value
returns-in-Signed-clause-value c =
    rw c.in-Signed.is (c.saturate_signed.ensures.value ∙ saturated_bits_is c.args.w c.args.x c.requires.low c.requires.fits)
