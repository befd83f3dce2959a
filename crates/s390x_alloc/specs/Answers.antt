-- The function with real registers that a plan gives.
use Rattle.std.specs.Prelude.{List, [], ◌∷◌, Option, Some, None, slice_get}
use Rattle.s390x_base.specs.declared.regs.Reg.{Reg}
use Rattle.s390x_inst.specs.Portions.{Portion, portions}
use Rattle.s390x_inst.specs.declared.function.Block.{Block}
use Rattle.s390x_inst.specs.declared.inst.Inst.{Inst}
use Rattle.s390x_assign.specs.Assignments.{assigned_portions}
use Rattle.s390x_alloc.specs.declared.plan.BlockPlan.{BlockPlan}
use Rattle.s390x_alloc.specs.declared.plan.Edit.{Edit}
use Rattle.s390x_alloc.specs.declared.plan.Edit.TheVariants.{Move, Step}
use Rattle.s390x_alloc.specs.Blocks.{left_behind}
use Rattle.s390x_alloc.specs.Moves.{move_portions}

-- an instruction with its registers
abbrev pub step_portions : Option Inst → List Reg → List Portion
step_portions None regs = []
step_portions (Some i) regs = (assigned_portions (portions i) regs).0

-- what stands for it in the answered function
abbrev pub edit_portions : Edit → List Inst → List Portion
edit_portions (Move to from) is = move_portions to from
edit_portions (Step regs) is = step_portions (slice_get is 0) regs.items

-- what stands for these edits in the answered function, one instruction for each
abbrev pub edits_portions : List Edit → List Inst → List (List Portion)
edits_portions [] is = []
edits_portions (e ∷ es) is = edit_portions e is ∷ edits_portions es (left_behind e is)

-- what stands for a block in the answered function
abbrev pub block_answer : Block → BlockPlan → List (List Portion)
block_answer b p = edits_portions p.edits.items b.insts.items

-- what stands for the blocks in the answered function
abbrev pub blocks_answer : List Block → List BlockPlan → List (List (List Portion))
blocks_answer [] ps = []
blocks_answer (b ∷ bs) [] = []
blocks_answer (b ∷ bs) (p ∷ ps) = block_answer b p ∷ blocks_answer bs ps
