use Rattle.std.proofs.Common.{◌≡◌, ◌++◌, ◌<◌, drop, map, length}
use Rattle.s390x_buffer.specs.State.{constant_of, limit}
use Rattle.s390x_buffer.specs.Constants.{constant_starts, constant_bytes, constants_end}
use Rattle.s390x_buffer.proofs.finish.append_constants.Given as goal

abbrev pub invariant-loop-c : goal.invariant-loop-c
invariant-loop-c l =
    let rest = map constant_of (drop l.c-index l.constants) in
    let n = length l.bytes.items in
    record {
      bytes : l.bytes.items ++ constant_bytes n rest ≡ l.initial.bytes.items ++ constant_bytes (length l.initial.bytes.items) (map constant_of l.constants);
      starts : l.starts.items ++ constant_starts n rest ≡ constant_starts (length l.initial.bytes.items) (map constant_of l.constants);
      small : constants_end n rest < limit;
    }
