use Rattle.std.proofs.Common.{◌≡◌, ◌≤◌, ◌++◌}
use Rattle.s390x_inst.specs.Frames.{float_loads, saved_floats}
use Rattle.s390x_inst.proofs.Saved.{from}
use Rattle.s390x_inst.proofs.abi.load_floats.Given as goal

abbrev pub invariant-loop-number : goal.invariant-loop-number
invariant-loop-number l = record {
  count : l.count ≤ l.number;
  rest : l.insts.items ++ float_loads l.start l.count (from l.set l.number) ≡ l.initial.insts.items ++ float_loads l.start 0 (saved_floats l.set);
}
