use Rattle.std.proofs.Common.{◌≡◌, true, arith}
use Rattle.s390x_base.specs.Registers.{general}
use Rattle.s390x_base.specs.Sets.{has}
use Rattle.s390x_listing.specs.Members.{general_members}
use Rattle.s390x_listing.proofs.SetTexts.{first_at, first_goes_on, text_at, text_goes_on}
use Rattle.s390x_listing.proofs.members.put_general.Goals as goal

pub loop-n-preserved : goal.loop-n-preserved
loop-n-preserved c =
    record {
      first = first_goes_on general (has c.args.set.now) c.loop-n.n true c.loop-n.is_first _ c.gpr_preg-register.result c.contains.result c.contains.ensures c.gpr_preg-register.ensures c.loop-n.invariant.first c.in_ok-is_first.ensures.0;
      text = text_goes_on general (has c.args.set.now) c.loop-n.n true c.loop-n.is_first _ _ _ c.gpr_preg-register.result c.contains.result c.contains.ensures c.gpr_preg-register.ensures c.loop-n.invariant.first c.loop-n.invariant.text c.in_ok-is_first.ensures.1;
    }

pub returns : goal.returns
unfolding general_members
returns c =
    let e : c.loop-n.n ≡ 16 = omega arith in
    (first_at general (has c.args.set.now) true _ c.loop-n.n 16 e c.loop-n.invariant.first, text_at general (has c.args.set.now) true _ _ c.loop-n.n 16 e c.loop-n.invariant.text)
