use Rattle.std.proofs.Common.{◌≡◌, ℕ, ◌<◌, length, slice_index}
use Rattle.s390x_page.proofs.text.copy_of_text.Given as goal

abbrev pub invariant-loop-i : goal.invariant-loop-i
invariant-loop-i l = record {
  long : length l.bytes ≡ 96;
  filled : (j : ℕ) → j < l.i → slice_index l.bytes j ≡ slice_index l.text.items j;
}
