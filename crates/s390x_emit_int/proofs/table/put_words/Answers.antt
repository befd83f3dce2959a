use Rattle.std.proofs.Common.{◌≡◌, ◌*◌, ◌-◌, get_or, refl, arith}
use Rattle.s390x_base.specs.declared.ir.MachLabel.{MachLabel}
use Rattle.s390x_buffer.proofs.Extending.{extends_on}
use Rattle.s390x_emit_int.proofs.OnlyMemory.{only_memory_again}
use Rattle.s390x_emit_int.proofs.Tables.{words_more, word_length, word_passed, words_passed}
use Rattle.s390x_emit_int.proofs.table.put_words.Goals as goal

-- what a list has past its end
abbrev nothing : MachLabel
nothing = record { 0 = 0 }

pub loop-target-preserved : goal.loop-target-preserved
loop-target-preserved c =
    let s = c.loop-target.sink in
    let s1 = c.put_word.new.sink in
    let ls = c.args.targets.now in
    let k = c.loop-target.target-index in
    let before = c.cur_offset.result - c.cur_offset-table.result in
    let at : before ≡ 4 * k = omega (arith, c.cur_offset.ensures.value, c.loop-target.invariant.place) in
    let long = word_length s s1 before (get_or ls k nothing).0 c.in_ok-put_word.ensures.answer in
    record {
      kept = extends_on _ _ _ c.loop-target.invariant.kept c.put_word.ensures.kept;
      place = omega (arith, long, c.loop-target.invariant.place);
      rest = words_more ls k before (get_or ls k nothing) nothing s s1 _ (omega arith) refl at c.in_ok-put_word.ensures.answer c.loop-target.invariant.rest;
      passed = λ after p. words_passed s s1 after before ls k (get_or ls k nothing) nothing (omega arith) refl c.in_ok-put_word.ensures.answer (c.loop-target.invariant.passed after p);
    }

pub returns-in_err-put_word-clause-only_memory : goal.returns-in_err-put_word-clause-only_memory
returns-in_err-put_word-clause-only_memory c = λ after p.
    let ls = c.args.targets.now in
    let k = c.loop-target.target-index in
    only_memory_again c.from_residual.result _ c.from_residual.ensures.1 (c.in_err-put_word.ensures.only_memory (word_passed c.loop-target.sink after ls k (get_or ls k nothing) nothing (omega arith) refl (c.loop-target.invariant.passed after p)))
