-- What a plan's check answers where there is no fault.
use Rattle.std.specs.Prelude.{◌≡◌, ℕ, List, map, IsOk}
use Rattle.s390x_base.specs.declared.ir.ConstantData.{ConstantData}
use Rattle.s390x_inst.specs.Portions.{portions}
use Rattle.s390x_inst.specs.declared.function.AllocatedFunction.{AllocatedFunction}
use Rattle.s390x_inst.specs.declared.function.Block.{Block}
use Rattle.s390x_inst.specs.declared.state.FrameLayout.{FrameLayout}
use Rattle.s390x_alloc.specs.declared.plan.Plan.{Plan}
use Rattle.s390x_alloc.specs.Answers.{blocks_answer}
use Rattle.s390x_alloc.specs.Checked.{plan_contents}

-- a constant, wherever its bytes lie
abbrev pub constant_value : ConstantData → List ℕ × ℕ
constant_value c = (c.bytes.items, c.align)

-- the plan has no fault; each edit is its instruction: a step the block's next one with the plan's registers, a move the copy, load or store that it is; and the
-- constants are those given
pub record IsAnswered (layout : FrameLayout) (function : AllocatedFunction) (plan : Plan) (answer : AllocatedFunction) : Type 0 where
  pub faultless : IsOk (plan_contents layout function.blocks.items plan.blocks.items)
  pub blocks_are : map (λ (b : Block). map portions b.insts.items) answer.blocks.items ≡ blocks_answer function.blocks.items plan.blocks.items
  pub constants_are : map constant_value answer.constants.items ≡ map constant_value function.constants.items
