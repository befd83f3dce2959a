use Rattle.std.proofs.Common.{subst, sym}
use Rattle.s390x_tool.specs.Lines.{IsLinkRefusal}
use Rattle.s390x_binary_tool.proofs.Answering.{list_unlinked}
use Rattle.s390x_binary_tool.proofs.list.list_of_code.Goals as goal

pub returns-in-Err : goal.returns-in-Err
returns-in-Err c =
    let s = c.link_refused.result.status in
    list_unlinked c.args.base c.args.job.now c.args.code.now c.in-Err.error s _ _ c.requires c.in-Err.ensures.refused
    (subst (λ t. IsLinkRefusal c.in-Err.error s t) (sym c.shared_reply.ensures.text) c.link_refused.ensures) c.shared_reply.ensures.status
