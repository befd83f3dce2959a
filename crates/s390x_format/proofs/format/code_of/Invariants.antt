use Rattle.std.proofs.Common.{◌≡◌, ℕ, ◌*◌, ◌/◌, ◌%◌, ◌^◌, ◌-◌, ◌<◌, get_or, length}
use Rattle.s390x_format.proofs.format.code_of.Given as goal

abbrev pub invariant-loop-i : goal.invariant-loop-i
invariant-loop-i l = record {
  six : length l.bytes ≡ 6;
  done : (k : ℕ) → k < l.i → get_or l.bytes k 0 ≡ l.n / 2 ^ (8 * (l.length - 1 - k)) % 256;
}
