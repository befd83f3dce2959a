use Rattle.std.proofs.Common.{ap, sym, subst, length, ◌∙◌, ◌<◌, ◌+◌, Some}
use Rattle.s390x_buffer.specs.State.{limit}
use Rattle.s390x_typed_steps.specs.Causes.{declared_in, block_cause}
use Rattle.s390x_typed_steps.specs.Folding.{folded_before}
use Rattle.s390x_typed_steps.specs.Ranges.{AllInRange}
use Rattle.s390x_typed_steps.specs.Sizes.{tree_size}
use Rattle.s390x_emit_int.specs.Emission.{fragments}
use Rattle.s390x_emit_int.specs.Fragments.{apply_all}
use Rattle.s390x_emit_int.specs.Function.{tree_of}
use Rattle.s390x_emit_int.specs.Members.{block_members_of}
use Rattle.s390x_emit_int.specs.Room.{MembersFit}
use Rattle.s390x_emit_int.proofs.Answering.{on_ok}
use Rattle.s390x_emit_int.proofs.function.emit_block.Goals as goal

pub returns-in-Some-clause-answer : goal.returns-in-Some-clause-answer
returns-in-Some-clause-answer c =
    let s = c.args.sink.now in
    let n = length s.labels in
    let t = tree_of c.args.flags c.args.state.now c.args.block.now in
    let same = ap (block_members_of c.args.flags c.args.state.now) (sym c.deref-in-Some.ensures.value) in
    on_ok c.emit_before_choice.result c.emit_before_choice.ensures.answer (λ h.
    h ∙ ap (λ x. apply_all s (fragments n 0 (folded_before (Some c.in-Some.choice.not_taken.0) x))) (sym same)
    ∙ ap (λ next. apply_all s (fragments n 0 (folded_before next t))) (sym c.in-Some.ensures.next.0))

pub returns-in-Some-clause-short : goal.returns-in-Some-clause-short
returns-in-Some-clause-short c =
    let same = ap (block_members_of c.args.flags c.args.state.now) (sym c.deref-in-Some.ensures.value) in
    on_ok c.emit_before_choice.result c.emit_before_choice.ensures.short (λ h. subst (λ x. length c.args.sink.now.bytes + tree_size x < limit) (sym same) h)

pub returns-in-Some-clause-cause : goal.returns-in-Some-clause-cause
returns-in-Some-clause-cause c =
    let s = c.args.sink.now in
    let same = ap (block_members_of c.args.flags c.args.state.now) (sym c.deref-in-Some.ensures.value) in
    on_ok c.emit_before_choice.result c.emit_before_choice.ensures.cause (λ h. ap (block_cause c.args.flags (declared_in s) (length s.labels)) same ∙ h)

pub returns-in-Some-clause-only_memory : goal.returns-in-Some-clause-only_memory
returns-in-Some-clause-only_memory c = λ p.
    let s = c.args.sink.now in
    let same = ap (block_members_of c.args.flags c.args.state.now) (sym c.deref-in-Some.ensures.value) in
    c.emit_before_choice.ensures.only_memory (subst (λ x. MembersFit s 0 0 (tree_size x) (block_cause c.args.flags (declared_in s) (length s.labels) x)) same p)

pub returns-in-Some-clause-ranges : goal.returns-in-Some-clause-ranges
returns-in-Some-clause-ranges c =
    let same = ap (block_members_of c.args.flags c.args.state.now) (sym c.deref-in-Some.ensures.value) in
    on_ok c.emit_before_choice.result c.emit_before_choice.ensures.ranges (λ h. subst AllInRange (sym same) h)
