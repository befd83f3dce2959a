use Rattle.std.proofs.Common.{length, ap, ◌∙◌, subst, sym}
use Rattle.std.specs.List.{All}
use Rattle.s390x_bundle.specs.Emitted.{AreEmitted}
use Rattle.s390x_bundle.specs.Joined.{IsFinished}
use Rattle.s390x_bundle.proofs.Emitting.{emitted_count, emitted_finished}
use Rattle.s390x_bundle.proofs.Together.{image_of_members, image_refused}
use Rattle.s390x_bundle.proofs.bundling.bundle.Goals as goal

pub join_members-requires-clause-counts : goal.join_members-requires-clause-counts
join_members-requires-clause-counts c = ap length c.deref.ensures.value ∙ emitted_count c.args.members.now c.in_ok-codes.codes.items c.in_ok-codes.ensures

pub join_members-requires-clause-finished : goal.join_members-requires-clause-finished
join_members-requires-clause-finished c = subst (λ l. All IsFinished l) (sym c.deref.ensures.value) (emitted_finished c.args.members.now c.in_ok-codes.codes.items c.in_ok-codes.ensures)

pub returns-in-Ok-clause-image : goal.returns-in-Ok-clause-image
returns-in-Ok-clause-image c =
    image_of_members c.args.base c.args.members.now c.deref.result.now c.in-Ok.bundle (sym c.in-Ok-None.ensures ∙ c.in-Ok-None.field-0-is) (subst (λ l. AreEmitted c.args.members.now l) (sym c.deref.ensures.value) c.in_ok-codes.ensures) c.in-Ok.ensures.answer

pub returns-clause-refused : goal.returns-clause-refused
returns-clause-refused c =
    image_refused c.args.base c.args.members.now c.deref.result.now (sym c.in-Ok-None.ensures ∙ c.in-Ok-None.field-0-is) (subst (λ l. AreEmitted c.args.members.now l) (sym c.deref.ensures.value) c.in_ok-codes.ensures) c.in-Err-join_members.error c.named_error.result c.named_error.ensures c.in-Err-join_members.ensures.answer
