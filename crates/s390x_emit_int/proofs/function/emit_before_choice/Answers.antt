use Rattle.std.proofs.Common.{ap, sym, refl, length, ◌∙◌, arith}
use Rattle.s390x_buffer.proofs.Extending.{extends_on}
use Rattle.s390x_emit_int.specs.Members.{block_members_of}
use Rattle.s390x_emit_int.proofs.Answering.{on_ok}
use Rattle.s390x_emit_int.proofs.LastChoice.{others_of, choice_last, choice_run, choice_size, choice_none, choice_ranges, choice_left, others_passed, ends_passed}
use Rattle.s390x_emit_int.proofs.OnlyMemory.{only_memory_again}
use Rattle.s390x_emit_int.proofs.Passing.{tree_turns, entries_declared}
use Rattle.s390x_emit_int.proofs.function.emit_before_choice.Goals as goal

pub returns-in-None-clause-answer : goal.returns-in-None-clause-answer
returns-in-None-clause-answer c =
    let members = block_members_of c.args.flags c.args.state.now in
    let is = choice_last c.args.flags c.args.state.now c.args.insts.now c.args.choice c.requires.last in
    on_ok c.put_last_choice.result c.put_last_choice.ensures.answer (λ h.
    h ∙ choice_run (members (others_of c.args.insts.now)) (members c.args.insts.now) c.args.choice c.args.sink.now c.emit_block_members.new.sink is c.requires.apart c.in_ok-emit_block_members.ensures.answer)

pub returns-in-None-clause-short : goal.returns-in-None-clause-short
returns-in-None-clause-short c =
    let s = c.args.sink.now in
    let members = block_members_of c.args.flags c.args.state.now in
    let is = choice_last c.args.flags c.args.state.now c.args.insts.now c.args.choice c.requires.last in
    let turns = tree_turns s c.emit_block_members.new.sink (length s.labels) 0 (members (others_of c.args.insts.now)) refl c.in_ok-emit_block_members.ensures.answer in
    let size = choice_size (members (others_of c.args.insts.now)) (members c.args.insts.now) c.args.choice is in
    on_ok c.put_last_choice.result c.put_last_choice.ensures.room (λ h. omega (arith, h, turns.bytes, size))

pub returns-in-None-clause-cause : goal.returns-in-None-clause-cause
returns-in-None-clause-cause c =
    let members = block_members_of c.args.flags c.args.state.now in
    let is = choice_last c.args.flags c.args.state.now c.args.insts.now c.args.choice c.requires.last in
    let own = c.in_ok-emit_block_members.ensures.cause in
    on_ok c.put_last_choice.result c.put_last_choice.ensures.cause (λ h.
    choice_none (members (others_of c.args.insts.now)) (members c.args.insts.now) c.args.choice c.args.flags c.args.state.now.nominal _ c.args.sink.now c.emit_block_members.new.sink is c.requires.start c.in_ok-emit_block_members.ensures.answer own.0 own.1 (sym c.end_cause.ensures ∙ c.in-None.is) c.put_last_choice.ensures.numbers h)

pub returns-in-None-clause-only_memory : goal.returns-in-None-clause-only_memory
returns-in-None-clause-only_memory c = λ p.
    let members = block_members_of c.args.flags c.args.state.now in
    let is = choice_last c.args.flags c.args.state.now c.args.insts.now c.args.choice c.requires.last in
    c.put_last_choice.ensures.only_memory (choice_left (members (others_of c.args.insts.now)) (members c.args.insts.now) c.args.choice c.args.flags c.args.state.now.nominal c.args.sink.now c.emit_block_members.new.sink is c.requires.start c.in_ok-emit_block_members.ensures.answer p)

pub returns-in-None-clause-ranges : goal.returns-in-None-clause-ranges
returns-in-None-clause-ranges c =
    let members = block_members_of c.args.flags c.args.state.now in
    let is = choice_last c.args.flags c.args.state.now c.args.insts.now c.args.choice c.requires.last in
    on_ok c.put_last_choice.result c.put_last_choice.ensures.range (λ h. choice_ranges (members (others_of c.args.insts.now)) (members c.args.insts.now) c.args.choice is c.in_ok-emit_block_members.ensures.ranges h)

pub returns-in-None-clause-declared : goal.returns-in-None-clause-declared
returns-in-None-clause-declared c = entries_declared _ _ (extends_on _ _ _ c.emit_block_members.ensures.kept c.put_last_choice.ensures.kept)

pub returns-in-Some-clause-only_memory : goal.returns-in-Some-clause-only_memory
returns-in-Some-clause-only_memory c = λ p.
    let members = block_members_of c.args.flags c.args.state.now in
    let last = choice_last c.args.flags c.args.state.now c.args.insts.now c.args.choice c.requires.last in
    let none = ends_passed (members (others_of c.args.insts.now)) (members c.args.insts.now) c.args.choice c.args.flags c.args.state.now.nominal _ c.args.sink.now last c.requires.start p c.in_ok-emit_block_members.ensures.cause.1 in
    let some = c.end_cause.ensures in
    let is = c.in-Some.is in
    absurd (cc)

pub returns-in-Some-clause-declared : goal.returns-in-Some-clause-declared
returns-in-Some-clause-declared c = entries_declared _ _ c.emit_block_members.ensures.kept

pub returns-in_err-emit_block_members-clause-only_memory : goal.returns-in_err-emit_block_members-clause-only_memory
returns-in_err-emit_block_members-clause-only_memory c = λ p.
    let members = block_members_of c.args.flags c.args.state.now in
    let is = choice_last c.args.flags c.args.state.now c.args.insts.now c.args.choice c.requires.last in
    only_memory_again c.from_residual.result _ c.from_residual.ensures.1
    (c.in_err-emit_block_members.ensures.only_memory (others_passed (members (others_of c.args.insts.now)) (members c.args.insts.now) c.args.choice c.args.flags c.args.state.now.nominal c.args.sink.now is c.requires.start p))

pub returns-in_err-emit_block_members-clause-declared : goal.returns-in_err-emit_block_members-clause-declared
returns-in_err-emit_block_members-clause-declared c = entries_declared _ _ c.emit_block_members.ensures.kept
