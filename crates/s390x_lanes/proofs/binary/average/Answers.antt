use Rattle.s390x_lanes.proofs.Signed.{biased-mean}
use Rattle.s390x_lanes.proofs.binary.average.Goals as goal

pub returns-in-Signed-clause-value : goal.returns-in-Signed-clause-value
returns-in-Signed-clause-value c =
    rw (c.in-Signed.is, c.bias-in-Signed-2.ensures.value, c.mean-in-Signed.ensures.value, c.bias.ensures.value, c.bias-in-Signed.ensures.value)
    (biased-mean c.args.w c.args.x c.args.y c.requires.low c.requires.x_fits c.requires.y_fits)
