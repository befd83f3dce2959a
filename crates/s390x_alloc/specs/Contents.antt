-- Which places hold the values of which virtual registers, and how a move and an instruction change that.
use Rattle.std.specs.Prelude.{Bool, false, ◌||◌, not, cond, List, [], ◌∷◌, ◌++◌, filter}
use Rattle.s390x_base.specs.Registers.{RealRegister}
use Rattle.s390x_base.specs.Sets.{has}
use Rattle.s390x_base.specs.declared.regs.Reg.{Reg}
use Rattle.s390x_base.specs.declared.regs.Reg.TheVariants.{Real, Virtual}
use Rattle.s390x_base.specs.declared.sets.PRegSet.{PRegSet}
use Rattle.s390x_operands.specs.declared.constraint.OperandKind.{OperandKind}
use Rattle.s390x_operands.specs.declared.constraint.OperandKind.TheVariants.{Def, Use}
use Rattle.s390x_operands.specs.declared.constraint.Reported.{Reported}
use Rattle.s390x_operands.specs.declared.constraint.Reported.TheVariants.{Operand, Fixed, Clobbers}
use Rattle.s390x_alloc.specs.declared.assigned.GivenOperand.{GivenOperand}
use Rattle.s390x_alloc.specs.declared.plan.EntryPair.{EntryPair}
use Rattle.s390x_alloc.specs.declared.plan.Place.{Place}
use Rattle.s390x_alloc.specs.declared.plan.Place.TheVariants.{Reg as InReg, Slot}
use Rattle.s390x_alloc.specs.Same.{same_pair, same_place, same_register}

-- the pair is one of these
abbrev pub holds : List EntryPair → EntryPair → Bool
holds [] x = false
holds (y ∷ ys) x = same_pair y x || holds ys x

-- the place is a register of the set
abbrev pub is_in_set : PRegSet → Place → Bool
is_in_set s (InReg p) = has s p
is_in_set s (Slot n) = false

-- ---- a move

-- what is held, without what the place held
abbrev pub without_place : Place → List EntryPair → List EntryPair
without_place p held = filter (λ (x : EntryPair). not (same_place x.place p)) held

-- what one place holds, as if another one held it
abbrev pub carried_pairs : (to from : Place) → List EntryPair → List EntryPair
carried_pairs to from [] = []
carried_pairs to from (x ∷ xs) = cond (same_place x.place from) (record { place = to; vreg = x.vreg } ∷ carried_pairs to from xs) (carried_pairs to from xs)

-- behind a move: its target holds what its source held before, and nothing else
abbrev pub contents_after_move : (to from : Place) → List EntryPair → List EntryPair
contents_after_move to from held = without_place to held ++ carried_pairs to from held

-- ---- an instruction

-- behind an item of the report that is no operand: a fixed register and those that are overwritten hold nothing
abbrev pub without_item : Reported → List EntryPair → List EntryPair
without_item (Operand reg constraint kind pos) held = held
without_item (Fixed p) held = without_place (InReg p) held
without_item (Clobbers s) held = filter (λ (x : EntryPair). not (is_in_set s x.place)) held

-- behind all items
abbrev pub without_items : List Reported → List EntryPair → List EntryPair
without_items [] held = held
without_items (x ∷ xs) held = without_items xs (without_item x held)

-- behind an output: its place holds it alone, and no other place holds it
abbrev pub with_output : RealRegister → Reg → List EntryPair → List EntryPair
with_output p r held = filter (λ (x : EntryPair). not (same_place x.place (InReg p) || same_register x.vreg r)) held ++ record { place = InReg p; vreg = r } ∷ []

-- behind an operand: an output changes what is held, an input doesn't
abbrev pub with_operand : OperandKind → Reg → (given : Reg) → List EntryPair → List EntryPair
with_operand Def r (Real p) held = with_output p r held
with_operand Def r (Virtual n c) held = held
with_operand Use r q held = held

-- behind all operands, in order
abbrev pub with_operands : List GivenOperand → List EntryPair → List EntryPair
with_operands [] held = held
with_operands (x ∷ xs) held = with_operands xs (with_operand x.kind x.reg x.given held)

-- behind an instruction: first what it overwrites holds nothing, then its outputs stand in their places
abbrev pub contents_after_step : List Reported → List GivenOperand → List EntryPair → List EntryPair
contents_after_step items operands held = with_operands operands (without_items items held)
