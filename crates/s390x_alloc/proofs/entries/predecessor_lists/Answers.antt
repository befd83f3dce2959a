use Rattle.std.proofs.Common.{◌≡◌, ◌+◌, ◌<◌, ◌∙◌, ap, arith, List, length, take, drop, ◌++◌, ℕ}
use Rattle.std.specs.Global.{Vec}
use Rattle.s390x_inst.specs.declared.inst.Inst.{Inst}
use Rattle.s390x_alloc.specs.Entries.{ends_with, numbers_at, predecessors, put_once}
use Rattle.s390x_alloc.specs.Shape.{precedes}
use Rattle.s390x_alloc.proofs.Leading.{block_led, later_none, written_back}
use Rattle.s390x_alloc.proofs.entries.predecessor_lists.Goals as goal

pub loop-number-preserved : goal.loop-number-preserved
loop-number-preserved c =
    let old = c.loop-number.before.items in
    let new = c.add_successors.new.before in
    let bs = c.args.blocks.now in
    let k = c.loop-number.number in
    let same : length new ≡ length old = c.add_successors.ensures.size ∙ ap (λ (l : List (Vec ℕ)). length l) c.deref_mut.ensures.value in
    let whole : take c.loop-number.before.len (new ++ drop (length new) old) ≡ new = written_back c.loop-number.before.len new (drop (length new) old) (omega (arith, same, c.loop-number.before.ok.0)) in
    let led = λ (n : ℕ) (lt : n < c.args.size). c.in_ok-add_successors.ensures.lists n (omega (arith, lt, c.loop-number.invariant.size, ap (λ (l : List (Vec ℕ)). length l) c.deref_mut.ensures.value)) ∙ ap (λ (is : List Inst). put_once (precedes (length bs) k is n) k (numbers_at c.deref_mut.result.now n)) c.deref.ensures.value ∙ ap (λ (l : List (Vec ℕ)). put_once (precedes (length bs) k c.index-blocks-number.result.insts.items n) k (numbers_at l n)) c.deref_mut.ensures.value in
    record {
      size = ap (λ (l : List (Vec ℕ)). length l) whole ∙ same ∙ c.loop-number.invariant.size;
      lists = λ n lt.
          ap (λ (l : List (Vec ℕ)). numbers_at l n ++ predecessors (length bs) n (k + 1) (drop (k + 1) bs)) whole
          ∙ block_led (length bs) n bs k c.index-blocks-number.result (numbers_at old n) (numbers_at new n) _ (omega arith) c.index-blocks-number.is (c.loop-number.invariant.earlier n k lt (omega arith)) (led n lt) (c.loop-number.invariant.lists n lt);
      earlier = λ n h lt le.
          ap (λ (l : List (Vec ℕ)). ends_with (numbers_at l n) h) whole
          ∙ later_none (precedes (length bs) k c.index-blocks-number.result.insts.items n) k h (numbers_at old n) (numbers_at new n) le (c.loop-number.invariant.earlier n h lt (omega (arith, le))) (led n lt);
    }
