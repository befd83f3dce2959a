-- The first fault of a plan.
use Rattle.std.specs.Prelude.{nat_eq, cond, List, [], length, Option, Some, None, Result, Ok, Err}
use Rattle.s390x_inst.specs.declared.function.Block.{Block}
use Rattle.s390x_inst.specs.declared.state.FrameLayout.{FrameLayout}
use Rattle.s390x_alloc.specs.declared.fault.PlanFault.{PlanFault}
use Rattle.s390x_alloc.specs.declared.fault.PlanFault.TheVariants.{Blocks}
use Rattle.s390x_alloc.specs.declared.plan.BlockPlan.{BlockPlan}
use Rattle.s390x_alloc.specs.declared.plan.EntryPair.{EntryPair}
use Rattle.s390x_alloc.specs.Blocks.{after_blocks}
use Rattle.s390x_alloc.specs.Entries.{entry_fault}

-- ---- the first fault

-- what is held at the ends of all blocks, unless a pair with which one begins has a fault
abbrev pub unless_entry : Option PlanFault → List (List EntryPair) → Result (List (List EntryPair)) PlanFault
unless_entry None ends = Ok ends
unless_entry (Some f) ends = Err f

-- the first fault of the pairs, where no block has one
abbrev pub then_entries : List Block → List BlockPlan → Result (List (List EntryPair)) PlanFault → Result (List (List EntryPair)) PlanFault
then_entries blocks plans (Ok ends) = unless_entry (entry_fault blocks (length blocks) ends 0 plans) ends
then_entries blocks plans (Err f) = Err f

-- the first fault of a plan, or what is held at the end of each block: the counts of blocks first, then block by block, then the pairs with which blocks begin
abbrev pub plan_contents : FrameLayout → List Block → List BlockPlan → Result (List (List EntryPair)) PlanFault
plan_contents layout blocks plans = cond (nat_eq (length blocks) (length plans)) (then_entries blocks plans (after_blocks layout (length blocks) [] 0 blocks plans)) (Err Blocks)
