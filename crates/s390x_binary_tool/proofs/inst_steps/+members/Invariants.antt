use Rattle.std.proofs.Common.{◌≡◌, drop}
use Rattle.s390x_binary_tool.specs.InstSteps.{steps_of_all}
use Rattle.s390x_binary_tool.proofs.inst_steps.+members.Given as goal

-- what the instructions that are left leave of the starts that are left
abbrev pub invariant-behind_members-loop-inst : goal.invariant-behind_members-loop-inst
invariant-behind_members-loop-inst l = drop (steps_of_all l.fn.state (drop l.inst-index l.insts)) l.left ≡ drop (steps_of_all l.fn.state l.insts) l.starts
