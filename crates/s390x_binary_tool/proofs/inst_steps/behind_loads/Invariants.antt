use Rattle.std.proofs.Common.{◌≡◌, drop}
use Rattle.s390x_binary_tool.specs.InstSteps.{loads_count}
use Rattle.s390x_binary_tool.proofs.inst_steps.behind_loads.Given as goal

-- what the results that are left leave of the starts that are left
abbrev pub invariant-loop-def : goal.invariant-loop-def
invariant-loop-def l = drop (loads_count (drop l.def-index l.defs)) l.left ≡ drop (loads_count l.defs) l.starts
