use Rattle.std.proofs.Common.{ap, sym, ◌∙◌}
use Rattle.s390x_typed_steps.specs.Causes.{target_label_cause}
use Rattle.s390x_emit_int.proofs.Answering.{on_ok}
use Rattle.s390x_emit_int.proofs.Leaves.{block_passed}
use Rattle.s390x_emit_int.proofs.instruction.emit_jump.Goals as goal

pub returns-in-None-clause-answer : goal.returns-in-None-clause-answer
returns-in-None-clause-answer c =
    let cause = ap (λ n. target_label_cause n c.args.dest) (sym c.block_count.ensures) ∙ sym c.label_cause.ensures ∙ c.in-None.is in
    on_ok c.put_jump.result c.put_jump.ensures.answer (λ e. (cause, e))

pub returns-in-None-clause-only_memory : goal.returns-in-None-clause-only_memory
returns-in-None-clause-only_memory c = λ after depth p. c.put_jump.ensures.only_memory (block_passed c.args.sink.now after depth 6 c.args.dest p)

pub returns-in-Some-clause-only_memory : goal.returns-in-Some-clause-only_memory
returns-in-Some-clause-only_memory c = λ after depth p.
    let none = p.passed in
    let some = c.label_cause.ensures in
    let count = c.block_count.ensures in
    let is = c.in-Some.is in
    absurd (cc)
