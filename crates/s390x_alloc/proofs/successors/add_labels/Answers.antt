use Rattle.std.proofs.Common.{◌∙◌, arith}
use Rattle.s390x_alloc.specs.Entries.{numbers_at}
use Rattle.s390x_alloc.proofs.Leading.{label_turn}
use Rattle.s390x_alloc.proofs.successors.add_labels.Goals as goal

pub loop-label-preserved : goal.loop-label-preserved
loop-label-preserved c = record {
  size = c.add_once.ensures.size ∙ c.loop-label.invariant.size;
  lists = λ n lt.
      label_turn c.args.labels.now c.loop-label.label-index _ n c.args.here (numbers_at c.loop-label.before n) (numbers_at c.add_once.new.before n) _ (omega arith)
      (c.in_ok-add_once.ensures.lists n (omega (arith, lt, c.loop-label.invariant.size))) (c.loop-label.invariant.lists n lt);
}
