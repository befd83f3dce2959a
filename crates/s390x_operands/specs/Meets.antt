-- Which registers an allocator may give the operands of an instruction.
use Rattle.std.specs.Prelude.{◌≡◌, slice_get, List, [], ◌∷◌, Some, ⊤}
use Rattle.s390x_base.specs.Regs.{IsReal}
use Rattle.s390x_base.specs.declared.regs.Reg.{Reg}
use Rattle.s390x_base.specs.declared.regs.Reg.TheVariants.{Real, Virtual}
use Rattle.s390x_operands.specs.declared.constraint.OperandConstraint.{OperandConstraint}
use Rattle.s390x_operands.specs.declared.constraint.OperandConstraint.TheVariants.{Any, Reuse, FixedReg, Reg as InRegister}
use Rattle.s390x_operands.specs.declared.constraint.Reported.{Reported}
use Rattle.s390x_operands.specs.declared.constraint.Reported.TheVariants.{Operand}

-- an operand that is real already keeps itself, a virtual one gets a real register of its class
abbrev pub SuitsOperand : (operand : Reg) → (given : Reg) → Type 0
SuitsOperand (Real p) q = q ≡ Real p
SuitsOperand (Virtual n class) q = IsReal class q

-- a fixed register is given itself, and a reuse what is given the operand with its index, of which there has to be one
abbrev pub SuitsConstraint : OperandConstraint → (all : List Reg) → (given : Reg) → Type 0
SuitsConstraint Any all q = ⊤
SuitsConstraint InRegister all q = ⊤
SuitsConstraint (FixedReg p) all q = q ≡ Real p
SuitsConstraint (Reuse k) all q = slice_get all k ≡ Some q

-- the operands among the items are given these registers, one each in order, where all operands are given those of a whole list
abbrev pub MeetsEach : (all : List Reg) → List Reported → List Reg → Type 0
MeetsEach all [] [] = ⊤
MeetsEach all [] (q ∷ s) = ⊥
MeetsEach all (Operand reg constraint kind pos ∷ xs) [] = ⊥
MeetsEach all (Operand reg constraint kind pos ∷ xs) (q ∷ s) = SuitsOperand reg q × (SuitsConstraint constraint all q × MeetsEach all xs s)
MeetsEach all (x ∷ xs) s = MeetsEach all xs s

-- the registers meet what is reported
abbrev pub Meets : List Reported → List Reg → Type 0
Meets items regs = MeetsEach regs items regs
