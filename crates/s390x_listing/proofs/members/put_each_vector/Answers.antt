use Rattle.std.proofs.Common.{◌≡◌, arith}
use Rattle.s390x_base.specs.Registers.{vector}
use Rattle.s390x_base.specs.Sets.{has}
use Rattle.s390x_listing.specs.Members.{vector_members}
use Rattle.s390x_listing.proofs.SetTexts.{first_at, first_goes_on, text_at, text_goes_on}
use Rattle.s390x_listing.proofs.members.put_each_vector.Goals as goal

pub loop-n-preserved : goal.loop-n-preserved
loop-n-preserved c =
    record {
      first = first_goes_on vector (has c.args.set.now) c.loop-n.n c.args.begins_list c.loop-n.is_first _ c.vr_preg-register.result c.contains.result c.contains.ensures c.vr_preg-register.ensures c.loop-n.invariant.first c.in_ok-is_first.ensures.0;
      text = text_goes_on vector (has c.args.set.now) c.loop-n.n c.args.begins_list c.loop-n.is_first _ _ _ c.vr_preg-register.result c.contains.result c.contains.ensures c.vr_preg-register.ensures c.loop-n.invariant.first c.loop-n.invariant.text c.in_ok-is_first.ensures.1;
    }

pub returns : goal.returns
unfolding vector_members
returns c =
    let e : c.loop-n.n ≡ 32 = omega arith in
    (first_at vector (has c.args.set.now) c.args.begins_list _ c.loop-n.n 32 e c.loop-n.invariant.first, text_at vector (has c.args.set.now) c.args.begins_list _ _ c.loop-n.n 32 e c.loop-n.invariant.text)
