use Rattle.std.proofs.Common.{◌≡◌, ◌∙◌, ◌+◌, ◌-◌, ◌<◌, ap, sym, subst, length, map, drop, cond, nat_lt, Some, None, [], refl, arith}
use Rattle.std.proofs.lemmas.List.{drop_all}
use Rattle.s390x_typed_steps.specs.Causes.{first_emit_cause, declared_in, fresh_labels, blocks_cause}
use Rattle.s390x_typed_steps.specs.Folding.{folded_before, folded_trees, next_block, peak}
use Rattle.s390x_typed_steps.specs.Sizes.{tree_size, blocks_size}
use Rattle.s390x_emit_int.specs.BlockEnds.{last_bytes}
use Rattle.s390x_emit_int.specs.Function.{tree_of, number_of_next}
use Rattle.s390x_emit_int.proofs.Blocks.{next_is, split_at}
use Rattle.s390x_emit_int.proofs.Peaks.{Counts, begun, counted, next_counts}
use Rattle.s390x_emit_int.proofs.Shortening.{end_takes}
use Rattle.s390x_emit_int.proofs.function.check_blocks.Goals as goal

pub loop-block-init : goal.loop-block-init
loop-block-init c = record {
  cause = refl;
  counts = begun (map (tree_of c.args.flags c.args.state.now) c.args.blocks.now);
  counted = record { labels = c.requires.few; bytes = omega arith };
  number = refl;
}

pub loop-block-preserved : goal.loop-block-preserved
loop-block-preserved c =
    let flags = c.args.flags in
    let state = c.args.state.now in
    let blocks = c.args.blocks.now in
    let D = declared_in c.args.sink.now in
    let i = c.loop-block.invariant in
    let k = c.loop-block.block-index in
    let v = c.block-item.result in
    let t = tree_of flags state v in
    let rest = map (tree_of flags state) (drop (k + 1) blocks) in
    let lt : k < length blocks = omega arith in
    let split = split_at flags state blocks k v lt c.block-item.is in
    let own = c.in_ok-sum.ensures in
    let added = c.in_ok-sum.sum in
    let number = c.label_of.ensures ∙ ap (λ l. cond (nat_lt l (length blocks)) (Some l) None) (omega (arith, i.number)) ∙ sym (next_is flags state blocks k) in
    let taken = c.folded_bytes.result in
    let lost : taken ≡ last_bytes (next_block k rest) v.insts.items = c.folded_bytes.ensures.value ∙ ap (last_bytes (number_of_next c.label_of.result)) c.deref.ensures.value ∙ ap (λ n. last_bytes n v.insts.items) number in
    let takes : tree_size (folded_before (next_block k rest) t) + taken ≡ tree_size t = ap (λ n. tree_size (folded_before (next_block k rest) t) + n) lost ∙ end_takes flags (next_block k rest) state v.insts.items in
    let labels = own.1.labels in
    let most = peak (map (tree_of flags state) blocks) in
    let last = blocks_size (folded_trees (map (tree_of flags state) blocks)) in
    record {
      cause =
          ap (λ n. blocks_cause flags D n rest) labels
          ∙ ap (λ o. first_emit_cause o (blocks_cause flags D (c.loop-block.sum.labels + fresh_labels t) rest)) (sym own.0)
          ∙ ap (blocks_cause flags D c.loop-block.sum.labels) (sym split)
          ∙ i.cause;
      counts = subst (λ n. Counts (k + 1) n (added.bytes - taken) rest most last) (sym c.max-longest.ensures) (
          next_counts k c.loop-block.longest c.loop-block.sum.bytes added.bytes taken most last t rest
          (subst (λ ts. Counts k c.loop-block.longest c.loop-block.sum.bytes ts most last) split i.counts)
          own.1.bytes own.1.counted.bytes takes (added.bytes - taken) (omega (arith, takes, own.1.bytes))
          );
      counted = record { labels = own.1.counted.labels; bytes = omega (arith, own.1.counted.bytes) };
      number = omega (arith, i.number);
    }

-- where no block is left
pub returns : goal.returns
returns c =
    let blocks = c.args.blocks.now in
    let i = c.loop-block.invariant in
    let ts = map (tree_of c.args.flags c.args.state.now) blocks in
    let none : map (tree_of c.args.flags c.args.state.now) (drop c.loop-block.block-index blocks) ≡ [] = ap (map (tree_of c.args.flags c.args.state.now)) (drop_all c.loop-block.block-index blocks (omega arith)) in
    let left = subst (λ us. Counts c.loop-block.block-index c.loop-block.longest c.loop-block.sum.bytes us (peak ts) (blocks_size (folded_trees ts))) none i.counts in (
      sym i.cause ∙ ap (blocks_cause c.args.flags (declared_in c.args.sink.now) c.loop-block.sum.labels) none,
      record {
        few = left.few;
        longest = counted c.loop-block.block-index c.loop-block.longest c.loop-block.sum.bytes (peak ts) (blocks_size (folded_trees ts)) left;
        last = λ near. omega (arith, left.exact near);
        low = left.low;
      },
    )

-- no more is taken off than the last block has
pub overflow_sub-sum : goal.overflow_sub-sum
overflow_sub-sum c =
    let v = c.block-item.result in
    let takes = end_takes c.args.flags (number_of_next c.label_of.result) c.args.state.now v.insts.items in
    let lost = c.folded_bytes.ensures.value ∙ ap (last_bytes (number_of_next c.label_of.result)) c.deref.ensures.value in
    let added = c.in_ok-sum.ensures.1.bytes in
    let few = c.folded_bytes.ensures.few in
    omega (arith, takes, lost, added, few)
