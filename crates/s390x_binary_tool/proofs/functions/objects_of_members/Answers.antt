use Rattle.std.proofs.Common.{subst, sym}
use Rattle.std.specs.Cow.{cow_slice_items}
use Rattle.s390x_tool.specs.Bundled.{IsBundleRefusal}
use Rattle.s390x_binary_tool.proofs.Joining.{objects_uncoded}
use Rattle.s390x_binary_tool.proofs.functions.objects_of_members.Goals as goal

pub returns-in-Err : goal.returns-in-Err
returns-in-Err c =
    let text = cow_slice_items c.shared_reply.result.text in
    objects_uncoded c.args.members.now c.in-Err.error c.bundle_refused.result.status c.shared_reply.result.status text c.in-Err.ensures
    (subst (λ t. IsBundleRefusal c.in-Err.error c.bundle_refused.result.status t) (sym c.shared_reply.ensures.text) c.bundle_refused.ensures) c.shared_reply.ensures.status
