use Rattle.std.proofs.Common.{◌≡◌, ◌<◌, drop, map}
use Rattle.s390x_buffer.specs.State.{constant_of, limit}
use Rattle.s390x_buffer.specs.Constants.{constants_end}
use Rattle.s390x_buffer.proofs.finish.constants_fit.Given as goal

abbrev pub invariant-loop-c : goal.invariant-loop-c
invariant-loop-c l = record {
  rest : constants_end l.end (map constant_of (drop l.c-index l.constants)) ≡ constants_end l.n (map constant_of l.constants);
  small : l.end < limit;
}
