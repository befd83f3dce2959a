use Rattle.std.proofs.Common.{◌≡◌, ℕ, ◌<◌, true, length, slice_index}
use Rattle.s390x_operations.specs.State.{wrapping_add64, reaches}
use Rattle.s390x_page.specs.Stepping.{is_held, byte_of}
use Rattle.s390x_page.proofs.storage.StorageMemory.leading_bytes.Given as goal

abbrev pub invariant-loop-i : goal.invariant-loop-i
invariant-loop-i l = record {
  reached : reaches (is_held l.self) l.address l.i ≡ true;
  long : length l.bytes ≡ 6;
  filled : (j : ℕ) → j < l.i → slice_index l.bytes j ≡ byte_of l.self (wrapping_add64 l.address j);
}
