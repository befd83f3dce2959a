use Rattle.std.proofs.Common.{◌≡◌, ℕ, ◌+◌, ◌*◌, ◌^◌, ◌<◌, length, slice_index}
use Rattle.s390x_page.proofs.halves.numbers_of_halves.Given as goal

abbrev pub invariant-loop-i : goal.invariant-loop-i
invariant-loop-i l = record {
  long : length l.joined ≡ 32;
  filled : (j : ℕ) → j < l.i → slice_index l.joined j ≡ slice_index l.high j * 2 ^ 64 + slice_index l.low j;
}
