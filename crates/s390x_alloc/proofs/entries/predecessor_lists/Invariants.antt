use Rattle.std.proofs.Common.{◌≡◌, ℕ, ◌<◌, ◌≤◌, false, ◌++◌, drop, length}
use Rattle.s390x_alloc.specs.Entries.{ends_with, numbers_at, predecessors}
use Rattle.s390x_alloc.proofs.entries.predecessor_lists.Given as goal

abbrev pub invariant-loop-number : goal.invariant-loop-number
invariant-loop-number l = record {
  size : length l.before.items ≡ l.size;
  lists : (n : ℕ) → n < l.size → numbers_at l.before.items n ++ predecessors (length l.blocks) n l.number (drop l.number l.blocks) ≡ predecessors (length l.blocks) n 0 l.blocks;
  earlier : (n h : ℕ) → n < l.size → l.number ≤ h → ends_with (numbers_at l.before.items n) h ≡ false;
}
