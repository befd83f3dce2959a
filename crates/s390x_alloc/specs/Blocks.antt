-- The first fault of a block's edits, and what is held at its end.
use Rattle.std.specs.Prelude.{◌≡◌, ℕ, ◌+◌, ◌⊎◌, Bool, true, false, ◌&&◌, List, [], ◌∷◌, ◌++◌, drop, slice_get, Option, Some, None, Result, Ok, Err}
use Rattle.s390x_base.specs.declared.regs.Reg.{Reg}
use Rattle.s390x_inst.specs.declared.function.Block.{Block}
use Rattle.s390x_inst.specs.declared.inst.Inst.{Inst}
use Rattle.s390x_inst.specs.declared.state.FrameLayout.{FrameLayout}
use Rattle.s390x_alloc.specs.declared.fault.EditCause.{EditCause}
use Rattle.s390x_alloc.specs.declared.fault.EditCause.TheVariants.{Misplaced, Immovable}
use Rattle.s390x_alloc.specs.declared.fault.PlanFault.{PlanFault}
use Rattle.s390x_alloc.specs.declared.fault.PlanFault.TheVariants.{Unsupported, Shape, Order, NoMemory}
use Rattle.s390x_alloc.specs.declared.plan.BlockPlan.{BlockPlan}
use Rattle.s390x_alloc.specs.declared.plan.Edit.{Edit}
use Rattle.s390x_alloc.specs.declared.plan.Edit.TheVariants.{Move, Step}
use Rattle.s390x_alloc.specs.declared.plan.EntryPair.{EntryPair}
use Rattle.s390x_alloc.specs.Faults.{edit_fault}
use Rattle.s390x_alloc.specs.Contents.{contents_after_move}
use Rattle.s390x_alloc.specs.Moves.{is_no_move}
use Rattle.s390x_alloc.specs.Shape.{block_ending, first_misshapen, first_unsupported, is_empty, is_end}
use Rattle.s390x_alloc.specs.Steps.{after_step}

-- ---- an edit, where these instructions are left in its block

-- how many of them it takes
abbrev pub steps_in : Edit → ℕ
steps_in (Move to from) = 0
steps_in (Step regs) = 1

-- what is left behind it
abbrev pub left_behind : Edit → List Inst → List Inst
left_behind e is = drop (steps_in e) is

-- the cause of a move: it stands behind the instruction that ends its block, or there is no such move
abbrev pub after_move : (is_behind_end is_none : Bool) → List EntryPair → Result (List EntryPair) EditCause
after_move true is_none held = Err Misplaced
after_move false true held = Err Immovable
after_move false false held = Ok held

-- the cause of a step: there is no instruction for it, or it can't be given its registers
abbrev pub after_step_of : Option Inst → List Reg → List EntryPair → Result (List EntryPair) EditCause
after_step_of None regs held = Err Misplaced
after_step_of (Some i) regs held = after_step i regs held

-- the cause by which it is refused, or what is held behind it
abbrev pub after_edit : FrameLayout → (ends : Bool) → Edit → List Inst → List EntryPair → Result (List EntryPair) EditCause
after_edit layout ends (Move to from) is held = after_move (ends && is_empty is) (is_no_move layout to from held) (contents_after_move to from held)
after_edit layout ends (Step regs) is held = after_step_of (slice_get is 0) regs.items held

-- ---- the edits of a block

-- the fault of an edit, or what comes behind it
abbrev pub or_fault : (block edit : ℕ) → Result (List EntryPair) EditCause → (List EntryPair → Result (List EntryPair) PlanFault) → Result (List EntryPair) PlanFault
or_fault block edit (Ok held) behind = behind held
or_fault block edit (Err c) behind = Err (edit_fault block edit c)

-- the first fault of these edits, of which the first has this number, or what is held behind them; an instruction that has no step is a fault at their count
abbrev pub after_edits : FrameLayout → (ends : Bool) → (block edit : ℕ) → List Edit → List Inst → List EntryPair → Result (List EntryPair) PlanFault
after_edits layout ends block edit [] [] held = Ok held
after_edits layout ends block edit [] (i ∷ is) held = Err (Order block edit)
after_edits layout ends block edit (e ∷ es) is held = or_fault block edit (after_edit layout ends e is held) (λ h. after_edits layout ends block (edit + 1) es (left_behind e is) h)

-- ---- a block

-- the fault of an instruction, where there is one, or else this
abbrev pub fault_or : (ℕ → PlanFault) → Option ℕ → Result (List EntryPair) PlanFault → Result (List EntryPair) PlanFault
fault_or fault None later = later
fault_or fault (Some number) later = Err (fault number)

-- the first fault of block `block` of `count` blocks, or what is held at its end: first its instructions are looked at, then its edits
abbrev pub after_block : FrameLayout → (count block : ℕ) → Block → BlockPlan → Result (List EntryPair) PlanFault
after_block layout count block b p =
    fault_or (Unsupported block) (first_unsupported 0 b.insts.items)
    (fault_or (Shape block) (first_misshapen count 0 b.insts.items)
    (after_edits layout (is_end (block_ending b.insts.items)) block 0 p.edits.items b.insts.items p.entry.items))

-- ---- all blocks

abbrev pub or_block_fault : Result (List EntryPair) PlanFault → (List EntryPair → Result (List (List EntryPair)) PlanFault) → Result (List (List EntryPair)) PlanFault
or_block_fault (Ok held) behind = behind held
or_block_fault (Err f) behind = Err f

-- the first fault of these blocks, of which the first has this number, or what is held at the end of each, behind what is held at the ends of those before
abbrev pub after_blocks : FrameLayout → (count : ℕ) → (ends : List (List EntryPair)) → (block : ℕ) → List Block → List BlockPlan → Result (List (List EntryPair)) PlanFault
after_blocks layout count ends block [] ps = Ok ends
after_blocks layout count ends block (b ∷ bs) [] = Ok ends
after_blocks layout count ends block (b ∷ bs) (p ∷ ps) = or_block_fault (after_block layout count block b p) (λ h. after_blocks layout count (ends ++ h ∷ []) (block + 1) bs ps)

-- ---- an answer

-- the fault is the one that was found; want of memory is free
abbrev pub IsFault : {T : Type 0} → Result T PlanFault → PlanFault → Type 0
IsFault r f = (f ≡ NoMemory) ⊎ (r ≡ Err f)
