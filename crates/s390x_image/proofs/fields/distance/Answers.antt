use Rattle.std.proofs.Common.{arith}
use Rattle.std.proofs.lemmas.Int.{ints}
use Rattle.s390x_image.proofs.fields.distance.Goals as goal

pub returns : goal.returns
returns c = omega (arith, ints)
