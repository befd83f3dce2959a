-- A plan without a fault, and a walk over it, so that the theorem on walks isn't empty: a value is spilled in one block and used in the next.
use Rattle.std.specs.Prelude.{◌≡◌, ℕ, List, [], ◌∷◌, map, pos, None, IsOk}
use Rattle.s390x_base.specs.Registers.{general}
use Rattle.s390x_base.specs.declared.regs.Reg.{Reg}
use Rattle.s390x_base.specs.declared.regs.Reg.TheVariants.{Real, Virtual}
use Rattle.s390x_base.specs.declared.regs.RegClass.TheVariants.{Int}
use Rattle.s390x_inst.specs.declared.function.Block.{Block}
use Rattle.s390x_inst.specs.declared.inst.Inst.{Inst}
use Rattle.s390x_inst.specs.declared.inst.Inst.TheVariants.{Jump, Mov64, Mov64SImm16, Ret}
use Rattle.s390x_inst.specs.declared.state.FrameLayout.{FrameLayout}
use Rattle.s390x_alloc.specs.declared.plan.BlockPlan.{BlockPlan}
use Rattle.s390x_alloc.specs.declared.plan.Edit.{Edit}
use Rattle.s390x_alloc.specs.declared.plan.Edit.TheVariants.{Move, Step}
use Rattle.s390x_alloc.specs.declared.plan.EntryPair.{EntryPair}
use Rattle.s390x_alloc.specs.declared.plan.Place.{Place}
use Rattle.s390x_alloc.specs.declared.plan.Place.TheVariants.{Reg as InReg, Slot}
use Rattle.s390x_alloc.specs.Checked.{plan_contents}
use Rattle.s390x_alloc.specs.Walks.{IsWalk, Visit}

-- an edit, wherever its registers lie
pub data Planned : Type 0 where
  moves : (to from : Place) → Planned
  steps : List Reg → Planned

abbrev pub planned_edit : Edit → Planned
planned_edit (Move to from) = moves to from
planned_edit (Step regs) = steps regs.items

abbrev pub insts_in : Block → List Inst
insts_in b = b.insts.items

abbrev pub entry_of : BlockPlan → List EntryPair
entry_of p = p.entry.items

abbrev pub edits_of : BlockPlan → List Planned
edits_of p = map planned_edit p.edits.items

abbrev pub block_of : Visit → ℕ
block_of x = x.block

abbrev pub first_value : Reg
first_value = Virtual 0 Int

-- a frame with room for two slots
abbrev pub two_slots : FrameLayout
two_slots = record { incoming_args_size = 0; tail_args_size = 0; clobber_size = 0; fixed_frame_storage_size = 40; stackslots_size = 8; outgoing_args_size = 0; first_saved_gpr = None; saved_fprs = 0 }

-- a number and a jump to the next block; a copy of the number and the return
abbrev pub insts : List (List Inst)
insts = (Mov64SImm16 first_value (pos 5) ∷ Jump (record { 0 = 1 }) ∷ []) ∷ (Mov64 (Virtual 1 Int) first_value ∷ Ret (Real (general 14)) ∷ []) ∷ []

-- the number in %r2 and in slot 1; from there in %r6, and its copy in %r2
abbrev pub edits : List (List Planned)
edits =
    (steps (Real (general 2) ∷ []) ∷ moves (Slot 1) (InReg (general 2)) ∷ steps [] ∷ [])
    ∷ (moves (InReg (general 6)) (Slot 1) ∷ steps (Real (general 2) ∷ Real (general 6) ∷ []) ∷ steps [] ∷ []) ∷ []

abbrev pub entries : List (List EntryPair)
entries = [] ∷ (record { place = Slot 1; vreg = first_value } ∷ []) ∷ []

-- these blocks have this plan, which has no fault, and a walk comes to both
pub record SpillIsAccepted : Type 0 where
  pub blocks : List Block
  pub plans : List BlockPlan
  pub walk : List Visit
  pub insts_are : map insts_in blocks ≡ insts
  pub edits_are : map edits_of plans ≡ edits
  pub entries_are : map entry_of plans ≡ entries
  pub faultless : IsOk (plan_contents two_slots blocks plans)
  pub goes : IsWalk blocks walk
  pub visits : map block_of walk ≡ 0 ∷ 1 ∷ []
