use Rattle.std.proofs.Common.{ap, sym, subst, refl, length, ◌∙◌, arith}
use Rattle.s390x_buffer.specs.BlockEnd.{at_block_end}
use Rattle.s390x_typed_steps.specs.Causes.{declared_in}
use Rattle.s390x_typed_steps.specs.Ranges.{AllInRange}
use Rattle.s390x_emit_int.specs.Emission.{fragments}
use Rattle.s390x_emit_int.specs.Members.{block_members_of}
use Rattle.s390x_emit_int.specs.Fragments.{apply_all}
use Rattle.s390x_emit_int.specs.Function.{tree_of}
use Rattle.s390x_emit_int.proofs.Blocks.{members_passed, block_none, block_ends}
use Rattle.s390x_emit_int.proofs.Ends.{if_ok, block_ended}
use Rattle.s390x_emit_int.proofs.OnlyMemory.{only_memory_again, only_memory_of_call, mark_none}
use Rattle.s390x_emit_int.proofs.Passing.{tree_turns, entries_declared, still_declared}
use Rattle.s390x_emit_int.proofs.function.emit_any_block.Goals as goal

pub returns-in-None-clause-answer : goal.returns-in-None-clause-answer
returns-in-None-clause-answer c =
    let s = c.args.sink.now in
    let n = length s.labels in
    let put = c.in_ok-emit_block_members.ensures.answer ∙ ap (λ l. apply_all s (fragments n 0 (block_members_of c.args.flags c.args.state.now l))) c.deref.ensures.value in
    if_ok c.end_block.result _ _ _ c.end_block.ensures.answer (λ x m. m.1 ∙ ap (λ t. at_block_end c.args.next t) put ∙ block_ended (tree_of c.args.flags c.args.state.now c.args.block.now) s n c.args.next c.requires.clear)

pub returns-in-None-clause-short : goal.returns-in-None-clause-short
returns-in-None-clause-short c =
    let s = c.args.sink.now in
    let put = c.in_ok-emit_block_members.ensures.answer ∙ ap (λ l. apply_all s (fragments (length s.labels) 0 (block_members_of c.args.flags c.args.state.now l))) c.deref.ensures.value in
    let turns = tree_turns s c.emit_block_members.new.sink (length s.labels) 0 (tree_of c.args.flags c.args.state.now c.args.block.now) refl put in
    if_ok c.end_block.result _ _ _ c.end_block.ensures.answer (λ x m. omega (arith, turns.bytes, c.cur_offset-longest.ensures.value, c.cur_offset-longest.ensures.below))

pub returns-in-None-clause-only_memory : goal.returns-in-None-clause-only_memory
returns-in-None-clause-only_memory c = λ p.
    let s = c.args.sink.now in
    let put = c.in_ok-emit_block_members.ensures.answer ∙ ap (λ l. apply_all s (fragments (length s.labels) 0 (block_members_of c.args.flags c.args.state.now l))) c.deref.ensures.value in
    let turns = tree_turns s c.emit_block_members.new.sink (length s.labels) 0 (tree_of c.args.flags c.args.state.now c.args.block.now) refl put in
    only_memory_of_call _ _ _ c.end_block.result c.end_block.ensures.answer (mark_none c.emit_block_members.new.sink (turns.unpoisoned ∙ p.unpoisoned))

pub returns-in-None-clause-declared : goal.returns-in-None-clause-declared
returns-in-None-clause-declared c = still_declared _ _ _ c.emit_block_members.ensures.kept c.end_block.ensures.kept

pub returns-in-None-clause-cause : goal.returns-in-None-clause-cause
returns-in-None-clause-cause c =
    let s = c.args.sink.now in
    let members = block_members_of c.args.flags c.args.state.now in
    let own = c.in_ok-emit_block_members.ensures.cause in
    if_ok c.end_block.result _ _ _ c.end_block.ensures.answer (λ x m.
    block_none c.args.flags (declared_in s) (length s.labels) c.args.state.now.nominal _ (tree_of c.args.flags c.args.state.now c.args.block.now) (members c.deref.result.now) c.requires.start (ap members c.deref.ensures.value) own.0 own.1 (sym c.end_cause.ensures ∙ c.in-None.is))

pub returns-in-None-clause-ranges : goal.returns-in-None-clause-ranges
returns-in-None-clause-ranges c =
    if_ok c.end_block.result _ _ _ c.end_block.ensures.answer (λ x m. subst (λ l. AllInRange (block_members_of c.args.flags c.args.state.now l)) c.deref.ensures.value c.in_ok-emit_block_members.ensures.ranges)

pub returns-in-Some-clause-only_memory : goal.returns-in-Some-clause-only_memory
returns-in-Some-clause-only_memory c = λ p.
    let s = c.args.sink.now in
    let none = block_ends c.args.flags (declared_in s) (length s.labels) c.args.state.now.nominal _ (tree_of c.args.flags c.args.state.now c.args.block.now) (block_members_of c.args.flags c.args.state.now c.deref.result.now) c.requires.start (ap (block_members_of c.args.flags c.args.state.now) c.deref.ensures.value) c.in_ok-emit_block_members.ensures.cause.1 p.passed in
    let some = c.end_cause.ensures in
    let is = c.in-Some.is in
    absurd (cc)

pub returns-in_err-emit_block_members-clause-only_memory : goal.returns-in_err-emit_block_members-clause-only_memory
returns-in_err-emit_block_members-clause-only_memory c = λ p.
    let members = block_members_of c.args.flags c.args.state.now in
    only_memory_again c.from_residual.result _ c.from_residual.ensures.1
    (c.in_err-emit_block_members.ensures.only_memory (members_passed c.args.flags c.args.sink.now c.args.state.now.nominal (tree_of c.args.flags c.args.state.now c.args.block.now) (members c.deref.result.now) c.requires.start (ap members c.deref.ensures.value) p))

pub returns-in-Some-clause-declared : goal.returns-in-Some-clause-declared
returns-in-Some-clause-declared c = entries_declared _ _ c.emit_block_members.ensures.kept

pub returns-in_err-emit_block_members-clause-declared : goal.returns-in_err-emit_block_members-clause-declared
returns-in_err-emit_block_members-clause-declared c = entries_declared _ _ c.emit_block_members.ensures.kept
