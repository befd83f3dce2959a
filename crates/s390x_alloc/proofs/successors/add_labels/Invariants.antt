use Rattle.std.proofs.Common.{◌≡◌, ℕ, ◌<◌, drop, length}
use Rattle.s390x_alloc.specs.Entries.{numbers_at, put_once}
use Rattle.s390x_alloc.specs.Shape.{is_label_in}
use Rattle.s390x_alloc.proofs.successors.add_labels.Given as goal

abbrev pub invariant-loop-label : goal.invariant-loop-label
invariant-loop-label l = record {
  size : length l.before ≡ length l.initial.before;
  lists : (n : ℕ) → n < length l.initial.before →
      put_once (is_label_in (drop l.label-index l.labels) n) l.here (numbers_at l.before n) ≡ put_once (is_label_in l.labels n) l.here (numbers_at l.initial.before n);
}
