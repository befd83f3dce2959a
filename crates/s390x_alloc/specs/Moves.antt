-- Which moves there are, and which instructions they are.
use Rattle.std.specs.Prelude.{◌≡◌, ℕ, ◌+◌, ◌*◌, pos, Bool, true, false, ◌&&◌, ◌||◌, not, nat_lt, List, [], ◌∷◌, Option, Some, None, Result, Ok, Err}
use Rattle.s390x_base.specs.Registers.{RealRegister}
use Rattle.s390x_base.specs.declared.regs.Reg.{Reg}
use Rattle.s390x_base.specs.declared.regs.Reg.TheVariants.{Real, Virtual}
use Rattle.s390x_base.specs.declared.regs.RegClass.{RegClass}
use Rattle.s390x_base.specs.declared.regs.RegClass.TheVariants.{Int, Float}
use Rattle.s390x_inst.specs.Portions.{Portion, portions}
use Rattle.s390x_inst.specs.declared.args.MemArg.{MemArg}
use Rattle.s390x_inst.specs.declared.args.MemArg.TheVariants.{SpillOffset}
use Rattle.s390x_inst.specs.declared.inst.Inst.{Inst}
use Rattle.s390x_inst.specs.declared.inst.Inst.TheVariants.{Mov64, Load64, Store64, Vector}
use Rattle.s390x_inst.specs.declared.state.FrameLayout.{FrameLayout}
use Rattle.s390x_inst.specs.declared.vec_inst.VecInst.TheVariants.{VecMov, VecLoad, VecStore}
use Rattle.s390x_alloc.specs.declared.fault.EditCause.{EditCause}
use Rattle.s390x_alloc.specs.declared.fault.EditCause.TheVariants.{Immovable, NoMemory}
use Rattle.s390x_alloc.specs.declared.plan.EntryPair.{EntryPair}
use Rattle.s390x_alloc.specs.declared.plan.Place.{Place}
use Rattle.s390x_alloc.specs.declared.plan.Place.TheVariants.{Reg as InReg, Slot}
use Rattle.s390x_alloc.specs.Contents.{contents_after_move}
use Rattle.s390x_alloc.specs.Same.{is_reserved, same_class, same_place}

-- ---- which instruction a move is

abbrev pub slot_operand : ℕ → MemArg
slot_operand s = SpillOffset (pos (16 * s))

abbrev pub copy_of : RegClass → (to from : RealRegister) → Inst
copy_of Int p q = Mov64 (Real p) (Real q)
copy_of Float p q = Vector (VecMov (Real p) (Real q))

abbrev pub load_of : RegClass → RealRegister → ℕ → Inst
load_of Int p s = Load64 (Real p) (slot_operand s)
load_of Float p s = Vector (VecLoad (Real p) (slot_operand s))

abbrev pub store_of : RegClass → RealRegister → ℕ → Inst
store_of Int p s = Store64 (Real p) (slot_operand s)
store_of Float p s = Vector (VecStore (Real p) (slot_operand s))

-- by the class and the kind; there is none from slot to slot
abbrev pub move_inst : (to from : Place) → Option Inst
move_inst (InReg p) (InReg q) = Some (copy_of p.class p q)
move_inst (InReg p) (Slot s) = Some (load_of p.class p s)
move_inst (Slot s) (InReg q) = Some (store_of q.class q s)
move_inst (Slot s) (Slot t) = None

-- ---- which moves there are not

-- a register that isn't moved, or a slot that ends behind the spill area
abbrev pub is_unmovable : FrameLayout → Place → Bool
is_unmovable layout (InReg p) = is_reserved p
is_unmovable layout (Slot s) = nat_lt layout.fixed_frame_storage_size (16 * s + 16 + layout.stackslots_size)

-- a virtual register of another class
abbrev pub is_of_other_class : RegClass → Reg → Bool
is_of_other_class c (Real p) = false
is_of_other_class c (Virtual n d) = not (same_class d c)

-- the place is held as a virtual register of another class
abbrev pub holds_other_class : Place → RegClass → List EntryPair → Bool
holds_other_class p c [] = false
holds_other_class p c (x ∷ xs) = (same_place x.place p && is_of_other_class c x.vreg) || holds_other_class p c xs

-- a register of another class, or a slot that holds a virtual register of another class
abbrev pub is_unlike_register : RegClass → (from : Place) → List EntryPair → Bool
is_unlike_register c (InReg q) held = not (same_class c q.class)
is_unlike_register c (Slot s) held = holds_other_class (Slot s) c held

-- two slots, two registers of two classes, or a slot that holds a virtual register of another class than that of its target
abbrev pub is_unlike : (to from : Place) → List EntryPair → Bool
is_unlike (InReg p) from held = is_unlike_register p.class from held
is_unlike (Slot s) (InReg q) held = false
is_unlike (Slot s) (Slot t) held = true

-- it is no move
abbrev pub is_no_move : FrameLayout → (to from : Place) → List EntryPair → Bool
is_no_move layout to from held = is_unmovable layout to || is_unmovable layout from || is_unlike to from held

-- ---- what stands in the answered function for a move

abbrev pub option_portions : Option Inst → List Portion
option_portions None = []
option_portions (Some i) = portions i

abbrev pub move_portions : (to from : Place) → List Portion
move_portions to from = option_portions (move_inst to from)

-- the answer for a move: exactly where it is none, it is refused so
abbrev pub IsMoved : FrameLayout → (to from : Place) → (before after : List EntryPair) → Result (Unit {0}) EditCause → Type 0
IsMoved layout to from before after (Ok u) = (is_no_move layout to from before ≡ false) × (after ≡ contents_after_move to from before)
IsMoved layout to from before after (Err Immovable) = is_no_move layout to from before ≡ true
IsMoved layout to from before after (Err NoMemory) = Unit {0}
IsMoved layout to from before after (Err c) = ⊥
