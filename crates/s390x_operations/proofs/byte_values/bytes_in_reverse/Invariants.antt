use Rattle.std.proofs.Common.{◌≡◌, ◌<◌, ◌-◌, ◌^◌}
use Rattle.s390x_operations.specs.Bits.{reversed_onto}
use Rattle.s390x_operations.proofs.byte_values.bytes_in_reverse.Given as goal

abbrev pub invariant-loop-i : goal.invariant-loop-i
invariant-loop-i l = record { left : reversed_onto (l.n - l.i) l.rest l.done ≡ reversed_onto l.n l.x 0; small : l.done < 256 ^ l.i }
