-- Walks along the blocks of a function and its plan, on which virtual registers and places have values, whatever these are: what an instruction reads by its
-- virtual registers, and what it reads by the registers that the plan gives them.
use Rattle.std.specs.Prelude.{◌≡◌, ℕ, ◌+◌, Bool, true, false, ◌||◌, cond, List, [], ◌∷◌, length, Option, Some, None, slice_get, ⊤}
use Rattle.s390x_base.specs.declared.regs.Reg.{Reg}
use Rattle.s390x_base.specs.declared.regs.Reg.TheVariants.{Real, Virtual}
use Rattle.s390x_inst.specs.declared.function.Block.{Block}
use Rattle.s390x_inst.specs.declared.inst.Inst.{Inst}
use Rattle.s390x_operands.specs.Operands.{operands}
use Rattle.s390x_operands.specs.declared.constraint.OperandKind.{OperandKind}
use Rattle.s390x_operands.specs.declared.constraint.OperandKind.TheVariants.{Def, Use}
use Rattle.s390x_operands.specs.declared.constraint.Reported.{Reported}
use Rattle.s390x_operands.specs.declared.constraint.Reported.TheVariants.{Operand, Fixed, Clobbers}
use Rattle.s390x_alloc.specs.declared.assigned.GivenOperand.{GivenOperand}
use Rattle.s390x_alloc.specs.declared.plan.BlockPlan.{BlockPlan}
use Rattle.s390x_alloc.specs.declared.plan.Edit.{Edit}
use Rattle.s390x_alloc.specs.declared.plan.Edit.TheVariants.{Move, Step}
use Rattle.s390x_alloc.specs.declared.plan.Place.{Place}
use Rattle.s390x_alloc.specs.declared.plan.Place.TheVariants.{Reg as InReg}
use Rattle.s390x_alloc.specs.Assigned.{given_operands}
use Rattle.s390x_alloc.specs.Contents.{is_in_set}
use Rattle.s390x_alloc.specs.Same.{same_place, same_register}
use Rattle.s390x_alloc.specs.Shape.{precedes}

-- ---- values

-- what virtual registers and places have
pub record Values : Type 0 where
  pub of_register : Reg → ℕ
  pub of_place : Place → ℕ

-- what comes up at one instruction: in each place that it overwrites, and for each of its operands that is an output, by its number
pub record Fresh : Type 0 where
  pub lost : Place → ℕ
  pub output : ℕ → ℕ

-- a place gets a value
abbrev pub with_place : Place → ℕ → (Place → ℕ) → Place → ℕ
with_place p n of_place x = cond (same_place x p) n (of_place x)

-- a register gets a value
abbrev pub with_register : Reg → ℕ → (Reg → ℕ) → Reg → ℕ
with_register r n of_register x = cond (same_register x r) n (of_register x)

-- a move copies the value of a place
abbrev pub values_after_copy : (to from : Place) → Values → Values
values_after_copy to from v = record { of_register = v.of_register; of_place = with_place to (v.of_place from) v.of_place }

-- a fixed register and those that are overwritten are lost
abbrev pub is_lost_by : Reported → Place → Bool
is_lost_by (Operand reg constraint kind pos) x = false
is_lost_by (Fixed p) x = same_place x (InReg p)
is_lost_by (Clobbers s) x = is_in_set s x

abbrev pub is_lost : List Reported → Place → Bool
is_lost [] x = false
is_lost (i ∷ is) x = is_lost_by i x || is_lost is x

-- lost places get any values
abbrev pub without : (lost : Place → ℕ) → List Reported → Values → Values
without lost items v = record { of_register = v.of_register; of_place = λ x. cond (is_lost items x) (lost x) (v.of_place x) }

-- an output gets any value, the same by its virtual register and in its place
abbrev pub with_output_value : OperandKind → Reg → (given : Reg) → ℕ → Values → Values
with_output_value Def r (Real p) n v = record { of_register = with_register r n v.of_register; of_place = with_place (InReg p) n v.of_place }
with_output_value Def r (Virtual k c) n v = v
with_output_value Use r q n v = v

-- these operands' outputs, one after the other, where the first of them has this number
abbrev pub with_outputs : (output : ℕ → ℕ) → (number : ℕ) → List GivenOperand → Values → Values
with_outputs output number [] v = v
with_outputs output number (x ∷ xs) v = with_outputs output (number + 1) xs (with_output_value x.kind x.reg x.given (output number) v)

-- the values behind an instruction
abbrev pub after_inst : Fresh → List Reported → List GivenOperand → Values → Values
after_inst fresh items xs v = with_outputs fresh.output 0 xs (without fresh.lost items v)

-- ---- what is read

-- a virtual register that is read has the value of the register that it is given
abbrev pub ReadsAlike : OperandKind → Reg → (given : Reg) → Values → Type 0
ReadsAlike Use (Virtual n c) (Real p) v = v.of_register (Virtual n c) ≡ v.of_place (InReg p)
ReadsAlike Use (Virtual n c) (Virtual m d) v = ⊥
ReadsAlike Use (Real p) q v = ⊤
ReadsAlike Def r q v = ⊤

-- each virtual register that these operands read has the value of the register that it is given
abbrev pub AllReadAlike : List GivenOperand → Values → Type 0
AllReadAlike [] v = ⊤
AllReadAlike (x ∷ xs) v = ReadsAlike x.kind x.reg x.given v × AllReadAlike xs v

-- ---- along a block: its edits, and the instructions that are left for them

-- each instruction reads alike; what comes up at an edit is told by its number
abbrev pub EditsReadAlike : (fresh : ℕ → Fresh) → (edit : ℕ) → List Edit → List Inst → Values → Type 0
EditsReadAlike fresh edit [] is v = ⊤
EditsReadAlike fresh edit (Move to from ∷ es) is v = EditsReadAlike fresh (edit + 1) es is (values_after_copy to from v)
EditsReadAlike fresh edit (Step regs ∷ es) [] v = ⊤
EditsReadAlike fresh edit (Step regs ∷ es) (i ∷ is) v =
    let xs = given_operands (operands i) regs.items in AllReadAlike xs v × EditsReadAlike fresh (edit + 1) es is (after_inst (fresh edit) (operands i) xs v)

-- the values at the end
abbrev pub after_edits_of : (fresh : ℕ → Fresh) → (edit : ℕ) → List Edit → List Inst → Values → Values
after_edits_of fresh edit [] is v = v
after_edits_of fresh edit (Move to from ∷ es) is v = after_edits_of fresh (edit + 1) es is (values_after_copy to from v)
after_edits_of fresh edit (Step regs ∷ es) [] v = v
after_edits_of fresh edit (Step regs ∷ es) (i ∷ is) v = after_edits_of fresh (edit + 1) es is (after_inst (fresh edit) (operands i) (given_operands (operands i) regs.items) v)

-- ---- along a walk

-- a block that a walk comes to, and what comes up at its edits
pub record Visit : Type 0 where
  pub block : ℕ
  pub fresh : ℕ → Fresh

abbrev pub insts_of : Option Block → List Inst
insts_of None = []
insts_of (Some b) = b.insts.items

abbrev pub edits_of : Option BlockPlan → List Edit
edits_of None = []
edits_of (Some p) = p.edits.items

-- block `from`, where there is one, has another one as a successor
abbrev pub is_successor : (count from : ℕ) → Option Block → (to : ℕ) → Bool
is_successor count from None to = false
is_successor count from (Some b) to = precedes count from b.insts.items to

-- each visit goes to a successor of the block before it
abbrev pub GoesOn : List Block → (from : ℕ) → List Visit → Type 0
GoesOn blocks from [] = ⊤
GoesOn blocks from (x ∷ xs) = (is_successor (length blocks) from (slice_get blocks from) x.block ≡ true) × GoesOn blocks x.block xs

-- a walk starts at the first block
abbrev pub IsWalk : List Block → List Visit → Type 0
IsWalk blocks [] = ⊤
IsWalk blocks (x ∷ xs) = (x.block ≡ 0) × GoesOn blocks x.block xs

-- each instruction of each visit reads alike
abbrev pub VisitsReadAlike : List Block → List BlockPlan → List Visit → Values → Type 0
VisitsReadAlike blocks plans [] v = ⊤
VisitsReadAlike blocks plans (x ∷ xs) v =
    let es = edits_of (slice_get plans x.block) in
    let is = insts_of (slice_get blocks x.block) in
    EditsReadAlike x.fresh 0 es is v × VisitsReadAlike blocks plans xs (after_edits_of x.fresh 0 es is v)

-- on every walk, whatever the values are in the beginning and whatever comes up, each instruction reads by its places the values of its virtual registers
abbrev pub EveryWalkReadsAlike : List Block → List BlockPlan → Type 0
EveryWalkReadsAlike blocks plans = (walk : List Visit) → IsWalk blocks walk → (v : Values) → VisitsReadAlike blocks plans walk v
