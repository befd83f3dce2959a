use Rattle.std.proofs.Common.{◌≡◌, ◌∙◌, ◌+◌, ◌<◌, ◌≤◌, ap, sym, refl, length, map, drop, cond, nat_lt, Some, None, arith}
use Rattle.s390x_buffer.specs.State.{BufferState, limit}
use Rattle.s390x_typed_steps.specs.Causes.{Declared, declared_in}
use Rattle.s390x_typed_steps.specs.Folding.{folded_before, next_block}
use Rattle.s390x_typed_steps.specs.Sizes.{tree_size}
use Rattle.s390x_typed_steps.proofs.Folding.{before_labels, before_size}
use Rattle.s390x_emit_int.specs.Emission.{fragments}
use Rattle.s390x_emit_int.specs.Function.{tree_of}
use Rattle.s390x_emit_int.specs.Fragments.{apply_all, apply, Bind}
use Rattle.s390x_emit_int.proofs.Imaging.{block_more, block_room, block_ranges, NextBlock, next_free}
use Rattle.s390x_emit_int.proofs.Blocks.{block_passed, others_passed, more_blocks, block_declared, more_longest, next_is}
use Rattle.s390x_emit_int.proofs.Passing.{bind_turns, tree_turns}
use Rattle.s390x_emit_int.proofs.OnlyMemory.{fails_with_none, only_memory_again, label_none}
use Rattle.s390x_emit_int.proofs.function.emit_blocks.Goals as goal

pub loop-block-preserved : goal.loop-block-preserved
loop-block-preserved c =
    let flags = c.args.flags in
    let state = c.args.state.now in
    let blocks = c.args.blocks.now in
    let s = c.loop-block.sink in
    let k = c.loop-block.block-index in
    let s1 = c.bind_label.new.self in
    let s2 = c.emit_block.new.sink in
    let v = c.block-item.result in
    let lt : k < length blocks = omega arith in
    let e1 : s1 ≡ apply s (Bind k) = c.in_ok-bind_label.ensures.answer.1 ∙ ap (λ l. apply s (Bind l)) c.loop-block.invariant.label in
    let rest = map (tree_of flags state) (drop (k + 1) blocks) in
    let number = c.label_of.ensures ∙ ap (λ l. cond (nat_lt l (length blocks)) (Some l) None) (omega (arith, c.loop-block.invariant.label)) ∙ sym (next_is flags state blocks k) in
    let u = folded_before (next_block k rest) (tree_of flags state v) in
    let e2 : s2 ≡ apply_all s1 (fragments (length s1.labels) 0 u) = c.in_ok-emit_block.ensures.answer ∙ ap (λ n. apply_all s1 (fragments (length s1.labels) 0 (folded_before n (tree_of flags state v)))) number in
    let turns = tree_turns s1 s2 (length s1.labels) 0 u refl e2 in
    let begun = bind_turns s s1 k e1 in
    let cut : tree_size u ≤ tree_size (tree_of flags state v) = before_size (next_block k rest) (tree_of flags state v) in
    let put : length s2.bytes ≡ length s.bytes + tree_size u = omega (arith, begun.bytes, turns.bytes) in
    let full : length s.bytes + tree_size (tree_of flags state v) < limit = omega (arith, c.in_ok-emit_block.ensures.short, begun.bytes) in
    let next : NextBlock s2 k (length blocks) = next_free k (length blocks) u s s1 s2 (omega (arith, c.loop-block.invariant.room, c.loop-block.invariant.count)) c.loop-block.invariant.free e1 e2 in
    record {
      rest = block_more flags state blocks k v s s1 s2 _ lt c.block-item.is e1 e2 c.loop-block.invariant.rest;
      ranges = λ f. c.loop-block.invariant.ranges (block_ranges flags state blocks k v v.insts.items lt c.block-item.is refl c.in_ok-emit_block.ensures.ranges f);
      short = omega (arith, put, cut, full);
      longest = λ below. c.loop-block.invariant.longest (more_longest flags state blocks k v (length s.bytes) (length s2.bytes) lt c.block-item.is put full below);
      cause = more_blocks state flags blocks k v u s s1 s2 lt c.block-item.is (before_labels (next_block k rest) (tree_of flags state v)) e1 e2 c.in_ok-emit_block.ensures.cause ∙ c.loop-block.invariant.cause;
      declared = block_declared k u s s1 s2 e1 e2 ∙ c.loop-block.invariant.declared;
      passed = λ unpoisoned short cause. others_passed state flags blocks k (declared_in c.args.sink.now) v s s1 s2 lt c.block-item.is e1 e2 (c.loop-block.invariant.passed unpoisoned short cause);
      label = omega (arith, c.loop-block.invariant.label);
      count = ap (λ (D : Declared). D.blocks) c.emit_block.ensures.declared ∙ c.bind_label.ensures.kept.entries.block_count ∙ c.loop-block.invariant.count;
      room = block_room k u s s1 s2 c.loop-block.invariant.room e1 e2;
      free = next.free;
    }

pub emit_block-requires-clause-clear : goal.emit_block-requires-clause-clear
emit_block-requires-clause-clear c = ap (λ (s : BufferState). s.branches) c.in_ok-bind_label.ensures.answer.1

pub returns-in_err-bind_label-clause-only_memory : goal.returns-in_err-bind_label-clause-only_memory
returns-in_err-bind_label-clause-only_memory c = λ unpoisoned short cause.
    let s = c.loop-block.sink in
    let p = c.loop-block.invariant.passed unpoisoned short cause in
    let below : c.loop-block.label < length s.labels = omega (arith, c.loop-block.invariant.label, c.loop-block.invariant.room, c.loop-block.invariant.count) in
    only_memory_again c.from_residual.result _ c.from_residual.ensures.1 (fails_with_none _ _ (label_none s c.loop-block.label p.unpoisoned below) c.in_err-bind_label.ensures.answer.0)

pub returns-in_err-emit_block-clause-only_memory : goal.returns-in_err-emit_block-clause-only_memory
returns-in_err-emit_block-clause-only_memory c = λ unpoisoned short cause.
    let s = c.loop-block.sink in
    let k = c.loop-block.block-index in
    let s1 = c.bind_label.new.self in
    let e1 : s1 ≡ apply s (Bind k) = c.in_ok-bind_label.ensures.answer.1 ∙ ap (λ l. apply s (Bind l)) c.loop-block.invariant.label in
    only_memory_again c.from_residual-in_err-emit_block.result _ c.from_residual-in_err-emit_block.ensures.1
    (c.in_err-emit_block.ensures.only_memory (block_passed c.args.state.now c.args.flags c.args.blocks.now k (declared_in c.args.sink.now) c.block-item.result s s1 (omega arith) c.block-item.is e1 (omega (arith, c.loop-block.invariant.count)) c.loop-block.invariant.room (c.loop-block.invariant.passed unpoisoned short cause)))
