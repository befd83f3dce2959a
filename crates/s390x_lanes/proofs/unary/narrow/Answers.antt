use Rattle.s390x_lanes.proofs.Powers.{masked}
use Rattle.s390x_lanes.proofs.unary.narrow.Goals as goal

pub returns-in-Modulo-clause-value : goal.returns-in-Modulo-clause-value
returns-in-Modulo-clause-value c = rw c.in-Modulo.is (masked c.args.w c.args.x c.ones.result c.ones.ensures)
