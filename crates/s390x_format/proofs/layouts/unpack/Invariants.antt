use Rattle.std.proofs.Common.{◌≡◌, ℕ, ◌+◌, ◌&&◌, ◌<◌, drop, get_or, length}
use Rattle.s390x_format.specs.Layout.{field, bits, zero_bits}
use Rattle.s390x_format.proofs.layouts.unpack.Given as goal

abbrev pub invariant-loop-part : goal.invariant-loop-part
invariant-loop-part l = record {
  rest : l.rest ≡ bits (drop l.part-index l.parts);
  ten : length l.slots ≡ 10;
  fields : (k : ℕ) → k < 10 → get_or l.slots k 0 + field (drop l.part-index l.parts) l.n k ≡ field l.parts l.n k;
  zeros : (l.has_zeros && zero_bits (drop l.part-index l.parts) l.n) ≡ zero_bits l.parts l.n;
}
