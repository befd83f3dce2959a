use Rattle.std.proofs.Common.{List, subst}
use Rattle.s390x_buffer.specs.declared.entries.RelocEntry.{RelocEntry}
use Rattle.s390x_bundle.specs.Table.{AnswersAlike}
use Rattle.s390x_bundle.proofs.Tables.{linked_alike}
use Rattle.s390x_bundle.proofs.linking.linked_member.Goals as goal

pub returns-in-Ok : goal.returns-in-Ok
returns-in-Ok c = λ symbols join.
    linked_alike c.args.code.now c.args.address c.in-Ok.table symbols
    (subst (λ (l : List RelocEntry). AnswersAlike l c.in-Ok.table symbols) c.deref.ensures.value (c.in-Ok.ensures symbols join)) c.link.result c.link.ensures.answer
