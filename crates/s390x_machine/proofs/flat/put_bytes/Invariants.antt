use Rattle.std.proofs.Common.{◌≡◌, ℕ, ◌-◌, ◌<◌, ◌≤◌, Some, false, slice_index}
use Rattle.std.specs.BTreeMap.{get}
use Rattle.std.specs.Ordering.{nat_cmp}
use Rattle.s390x_machine.specs.Regions.{has_address}
use Rattle.s390x_machine.proofs.flat.put_bytes.Given as goal

abbrev pub invariant-loop-i : goal.invariant-loop-i
invariant-loop-i l = record {
  outside : (a : ℕ) → has_address l.start l.bytes a ≡ false → get nat_cmp l.older a ≡ get nat_cmp l.fn.older a;
  inside : (a : ℕ) → l.start ≤ a → a - l.start < l.i → get nat_cmp l.older a ≡ Some (slice_index l.bytes (a - l.start));
}
