use Rattle.std.proofs.Common.{ap, sym, ◌∙◌}
use Rattle.s390x_typed_steps.specs.Causes.{first_emit_cause, target_label_cause}
use Rattle.s390x_emit_int.proofs.Answering.{on_ok}
use Rattle.s390x_emit_int.proofs.Leaves.{choice_passed}
use Rattle.s390x_emit_int.proofs.instruction.emit_cond_br.Goals as goal

pub returns-in-None-clause-answer : goal.returns-in-None-clause-answer
returns-in-None-clause-answer c =
    let cause = ap (λ n. first_emit_cause (target_label_cause n c.args.taken) (target_label_cause n c.args.not_taken)) (sym c.block_count.ensures) ∙ sym c.two_labels_cause.ensures ∙ c.in-None.is in
    on_ok c.emit_two_branches.result c.emit_two_branches.ensures.answer (λ e. (cause, e))

pub returns-in-None-clause-only_memory : goal.returns-in-None-clause-only_memory
returns-in-None-clause-only_memory c = λ after depth p.
    let f = choice_passed c.args.sink.now after depth 12 c.args.taken c.args.not_taken p in
    c.emit_two_branches.ensures.only_memory f.0 f.1

pub returns-in-Some-clause-only_memory : goal.returns-in-Some-clause-only_memory
returns-in-Some-clause-only_memory c = λ after depth p.
    let none = p.passed in
    let some = c.two_labels_cause.ensures in
    let count = c.block_count.ensures in
    let is = c.in-Some.is in
    absurd (cc)
