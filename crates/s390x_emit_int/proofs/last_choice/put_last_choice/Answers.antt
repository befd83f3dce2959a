use Rattle.std.proofs.Common.{arith, ap, sym, length, nat_lt, ltb-true, ◌∙◌, ◌+◌}
use Rattle.s390x_base.specs.declared.error.EmitError.TheVariants.{LabelOutOfRange}
use Rattle.s390x_buffer.specs.State.{BufferState, limit}
use Rattle.s390x_typed_steps.proofs.Causes.{first_left, first_right, unless_true}
use Rattle.s390x_emit_int.specs.Emission.{branch}
use Rattle.s390x_emit_int.specs.Fragments.{apply}
use Rattle.s390x_emit_int.proofs.Answering.{on_ok}
use Rattle.s390x_emit_int.proofs.LastChoice.{labels_cause, branch_passed, no_choice_cause}
use Rattle.s390x_emit_int.proofs.last_choice.put_last_choice.Goals as goal

pub returns-in-None-clause-answer : goal.returns-in-None-clause-answer
returns-in-None-clause-answer c =
    let choice = c.args.choice in
    on_ok c.put_branch.result c.put_branch.ensures.answer (λ h.
    h ∙ ap (λ m. apply c.start_step.new.self (branch m choice.taken.0)) c.bits.ensures.value
    ∙ ap (λ (x : BufferState). apply x (branch choice.cond choice.taken.0)) c.in_ok-start_step.ensures.answer.1)

pub returns-in-None-clause-cause : goal.returns-in-None-clause-cause
returns-in-None-clause-cause c =
    let choice = c.args.choice in
    let s1 = c.start_step.new.self in
    let none = sym c.choice_cause.ensures ∙ c.in-None.is in
    let same = ap (λ (x : BufferState). x.block_count) c.in_ok-start_step.ensures.answer.1 in
    on_ok c.put_branch.result c.put_branch.ensures.answer (λ h. ap (λ k. labels_cause k choice) (sym same) ∙ first_left (labels_cause s1.block_count choice) _ none)

pub returns-in-None-clause-room : goal.returns-in-None-clause-room
returns-in-None-clause-room c =
    let choice = c.args.choice in
    let s1 = c.start_step.new.self in
    let none = sym c.choice_cause.ensures ∙ c.in-None.is in
    let same = ap (λ (x : BufferState). length x.bytes) c.in_ok-start_step.ensures.answer.1 in
    let below = ltb-true (length s1.bytes + 12) limit (unless_true (nat_lt (length s1.bytes + 12) limit) LabelOutOfRange (first_right (labels_cause s1.block_count choice) _ none)) in
    on_ok c.put_branch.result c.put_branch.ensures.answer (λ h. omega (arith, below, same))

pub returns-in-None-clause-only_memory : goal.returns-in-None-clause-only_memory
returns-in-None-clause-only_memory c = λ p.
    c.put_branch.ensures.only_memory (branch_passed c.args.choice c.args.sink.now c.start_step.new.self c.in_ok-start_step.ensures.answer.1 p)

pub returns-in-Some-clause-only_memory : goal.returns-in-Some-clause-only_memory
returns-in-Some-clause-only_memory c = λ p.
    let none = no_choice_cause c.args.choice c.args.sink.now c.start_step.new.self c.in_ok-start_step.ensures.answer.1 p in
    let some = c.choice_cause.ensures in
    let is = c.in-Some.is in
    absurd (cc)
