use Rattle.std.proofs.Common.{◌≡◌, ◌∙◌, ◌+◌, ◌<◌, sym, ap, ap₂, subst, length, map, None, arith}
use Rattle.std.proofs.lemmas.List.{length-map, length-replicate}
use Rattle.s390x_buffer.specs.State.{BufferState, fresh_buffer, new_cause, limit}
use Rattle.s390x_typed_steps.specs.Folding.{folded_trees, peak_from}
use Rattle.s390x_typed_steps.proofs.Folding.{folded_length}
use Rattle.s390x_typed_steps.specs.Ranges.{BlocksInRange}
use Rattle.s390x_typed_steps.specs.Causes.{declared_in, declared_of, blocks_cause}
use Rattle.s390x_typed_steps.proofs.Causes.{first_left, first_right}
use Rattle.s390x_emit_int.specs.Emission.{function_fragments}
use Rattle.s390x_emit_int.specs.Function.{tree_of, trees_of, constants_of}
use Rattle.s390x_emit_int.specs.Fragments.{apply_all}
use Rattle.s390x_emit_int.proofs.Finishing.{peak_below}
use Rattle.s390x_emit_int.proofs.function.emit_in.Goals as goal

pub finish-requires-clause-emitted : goal.finish-requires-clause-emitted
finish-requires-clause-emitted c =
    let f = c.args.function.now in
    let ts = trees_of c.args.flags c.args.state.now f in
    let cs = constants_of f in
    let s0 = c.args.sink in
    let start : s0 ≡ fresh_buffer (length ts) cs = c.requires.fresh ∙ ap (λ n. fresh_buffer n cs) (sym (length-map f.blocks.items (tree_of c.args.flags c.args.state.now))) in
    let labels : length s0.labels ≡ length ts + length cs = ap (λ s. length s.labels) start ∙ length-replicate (length ts + length cs) None in
    let us = folded_trees ts in
    c.in-Ok.ensures.answer
    ∙ ap (λ l. apply_all s0 (function_fragments (length s0.labels) 0 (folded_trees (map (tree_of c.args.flags c.args.state.now) l)))) c.deref.ensures.value
    ∙ ap (λ m. apply_all s0 (function_fragments m 0 us)) labels
    ∙ ap (λ s. apply_all s (function_fragments (length ts + length cs) 0 us)) start
    ∙ ap (λ n. apply_all (fresh_buffer n cs) (function_fragments (n + length cs) 0 us)) (sym (folded_length 0 ts))

pub emit_blocks-requires-clause-short : goal.emit_blocks-requires-clause-short
emit_blocks-requires-clause-short c = omega (arith, ap (λ (s : BufferState). length s.bytes) c.requires.fresh)

pub finish-requires-clause-longest : goal.finish-requires-clause-longest
finish-requires-clause-longest c =
    let empty : length c.args.sink.bytes ≡ 0 = ap (λ (s : BufferState). length s.bytes) c.requires.fresh in
    subst (λ n. peak_from 0 n (trees_of c.args.flags c.args.state.now c.args.function.now) < limit) empty (subst (λ l. peak_from 0 (length c.args.sink.bytes) (map (tree_of c.args.flags c.args.state.now) l) < limit) c.deref.ensures.value c.in-Ok.ensures.longest)

pub finish-requires-clause-cause : goal.finish-requires-clause-cause
finish-requires-clause-cause c =
    let f = c.args.function.now in
    let ts = trees_of c.args.flags c.args.state.now f in
    let cs = constants_of f in
    let n = length ts + length cs in
    let s0 = c.args.sink in
    let start : s0 ≡ fresh_buffer (length ts) cs = c.requires.fresh ∙ ap (λ n. fresh_buffer n cs) (sym (length-map f.blocks.items (tree_of c.args.flags c.args.state.now))) in
    let labels : length s0.labels ≡ n = ap (λ s. length s.labels) start ∙ length-replicate n None in
    sym (ap₂ (λ m l. blocks_cause c.args.flags (declared_in s0) m (map (tree_of c.args.flags c.args.state.now) l)) labels c.deref.ensures.value ∙ ap (λ (s : BufferState). blocks_cause c.args.flags (declared_in s) n ts) start) ∙ c.in-Ok.ensures.cause

pub finish-requires-clause-ranges : goal.finish-requires-clause-ranges
finish-requires-clause-ranges c = subst (λ l. BlocksInRange (map (tree_of c.args.flags c.args.state.now) l)) c.deref.ensures.value c.in-Ok.ensures.ranges

pub refusal-requires-clause-declared : goal.refusal-requires-clause-declared
refusal-requires-clause-declared c =
    let f = c.args.function.now in
    let cs = constants_of f in
    c.emit_blocks.ensures.declared ∙ ap declared_in (c.requires.fresh ∙ ap (λ n. fresh_buffer n cs) (sym (length-map f.blocks.items (tree_of c.args.flags c.args.state.now))))

-- where no cause stands there is room for all, so that an error is want of memory
pub refusal-requires-clause-only_memory : goal.refusal-requires-clause-only_memory
refusal-requires-clause-only_memory c = λ checked.
    let f = c.args.function.now in
    let ts = trees_of c.args.flags c.args.state.now f in
    let cs = constants_of f in
    let n = length ts + length cs in
    let s0 = c.args.sink in
    let start : s0 ≡ fresh_buffer (length ts) cs = c.requires.fresh ∙ ap (λ n. fresh_buffer n cs) (sym (length-map f.blocks.items (tree_of c.args.flags c.args.state.now))) in
    let labels : length s0.labels ≡ n = ap (λ s. length s.labels) start ∙ length-replicate n None in
    let empty : length s0.bytes ≡ 0 = ap (λ (s : BufferState). length s.bytes) start in
    let short : peak_from 0 (length s0.bytes) (map (tree_of c.args.flags c.args.state.now) c.deref.result.now) < limit =
    subst (λ l. peak_from 0 (length s0.bytes) (map (tree_of c.args.flags c.args.state.now) l) < limit) (sym c.deref.ensures.value) (subst (λ n. peak_from 0 n ts < limit) (sym empty) (peak_below c.args.flags ts cs checked)) in
    let cause : blocks_cause c.args.flags (declared_in s0) (length s0.labels) (map (tree_of c.args.flags c.args.state.now) c.deref.result.now) ≡ None =
    ap₂ (λ m l. blocks_cause c.args.flags (declared_in s0) m (map (tree_of c.args.flags c.args.state.now) l)) labels c.deref.ensures.value ∙ ap (λ (s : BufferState). blocks_cause c.args.flags (declared_in s) n ts) start ∙ first_left (blocks_cause c.args.flags (declared_of ts cs) n ts) _ (first_right (new_cause (length ts) cs) _ checked) in
    c.in-Err.ensures.only_memory (ap (λ (s : BufferState). s.is_poisoned) start) short cause
