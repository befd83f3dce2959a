use Rattle.std.proofs.Common.{refl, arith}
use Rattle.s390x_inst.specs.declared.calls.CallRetPair.{CallRetPair}
use Rattle.s390x_binary_tool.specs.InstSteps.{load_count, loads_count}
use Rattle.s390x_binary_tool.proofs.Counting.{drops_went}
use Rattle.s390x_binary_tool.proofs.Pushing.{item}
use Rattle.s390x_binary_tool.proofs.inst_steps.behind_loads.Goals as goal

pub loop-def-preserved : goal.loop-def-preserved
loop-def-preserved c =
    drops_went (λ (d : CallRetPair). load_count d.location) loads_count (λ x xs. refl) c.args.defs.now c.loop-def.def-index c.def-item.result c.loop-def.left.now _ _
    (item c.args.defs.now c.loop-def.def-index c.def-item.result c.def-item.result (omega arith) c.def-item.is) c.behind_load-left.ensures c.loop-def.invariant
