use Rattle.std.proofs.Common.{◌≡◌, ◌++◌, drop}
use Rattle.s390x_inst.specs.Frames.{return_loads}
use Rattle.s390x_inst.proofs.abi.load_results.Given as goal

abbrev pub invariant-loop-def : goal.invariant-loop-def
invariant-loop-def l = l.loads.items ++ return_loads (drop l.def-index l.defs) ≡ return_loads l.defs
