use Rattle.std.proofs.Common.{◌≡◌, arith}
use Rattle.s390x_base.specs.Registers.{vector}
use Rattle.s390x_base.specs.Sets.{has}
use Rattle.s390x_listing.specs.Members.{vector_members}
use Rattle.s390x_listing.proofs.SetTexts.{found_at}
use Rattle.s390x_listing.proofs.members.has_vector.Goals as goal

pub returns : goal.returns
unfolding vector_members
returns c =
    let e : c.loop-n.n ≡ 32 = omega arith in
    found_at vector (has c.args.set.now) _ c.loop-n.n 32 e c.loop-n.invariant
