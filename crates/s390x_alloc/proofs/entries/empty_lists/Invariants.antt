use Rattle.std.proofs.Common.{◌≡◌, ℕ, [], length}
use Rattle.s390x_alloc.specs.Entries.{numbers_at}
use Rattle.s390x_alloc.proofs.entries.empty_lists.Given as goal

abbrev pub invariant-loop-i : goal.invariant-loop-i
invariant-loop-i l = record {
  size : length l.lists.items ≡ l._i;
  lists : (n : ℕ) → numbers_at l.lists.items n ≡ [];
}
