use Rattle.std.proofs.Common.{◌≡◌, ℕ, ◌/◌, ◌^◌, ◌<◌, length, slice_index}
use Rattle.s390x_page.proofs.halves.high_halves.Given as goal

abbrev pub invariant-loop-i : goal.invariant-loop-i
invariant-loop-i l = record {
  long : length l.halves ≡ 32;
  filled : (j : ℕ) → j < l.i → slice_index l.halves j ≡ slice_index l.numbers j / 2 ^ 64;
}
