-- Premises that are met: registers for a sum into its first input, and moves in each class.
use Rattle.std.proofs.Common.{◌≡◌, ℕ, [], ◌∷◌, Option, Some, None, refl, ap, arith}
use Rattle.s390x_base.specs.Registers.{general, vector}
use Rattle.s390x_base.specs.Regs.{number_of}
use Rattle.s390x_base.specs.declared.ir.ValueType.TheVariants.{I64, I128}
use Rattle.s390x_base.specs.declared.regs.Reg.{Reg}
use Rattle.s390x_base.specs.declared.regs.Reg.TheVariants.{Real, Virtual}
use Rattle.s390x_base.specs.declared.regs.RegClass.TheVariants.{Int}
use Rattle.s390x_inst.specs.declared.inst.Inst.TheVariants.{AluRR, Flogr}
use Rattle.s390x_inst.specs.declared.ops.ALUOp.TheVariants.{Add64}
use Rattle.s390x_operands.specs.Meets.{Meets}
use Rattle.s390x_operands.specs.Operands.{operands}
use Rattle.s390x_operands.specs.Queries.{CanMove}

-- the sum of two virtual registers, in the first of them: the output reuses the first input
pub sum_is_met : Meets (operands (AluRR Add64 (Virtual 0 Int) (Virtual 0 Int) (Virtual 1 Int))) (Real (general 5) ∷ Real (general 5) ∷ Real (general 6) ∷ [])
sum_is_met = (refl, (refl, (refl, (tt, (refl, (tt, tt))))))

-- leading zeros of a virtual register: both outputs are fixed
pub fixed_is_met : Meets (operands (Flogr (record { hi = Virtual 0 Int; lo = Virtual 1 Int }) (Virtual 2 Int))) (Real (general 7) ∷ Real (general 2) ∷ Real (general 3) ∷ [])
fixed_is_met = (refl, (tt, (refl, (refl, (refl, (refl, tt))))))

abbrev number_in : Option Reg → ℕ
number_in None = 0
number_in (Some r) = number_of r

-- an output that reuses an input isn't given another register
pub other_is_not_met : Meets (operands (AluRR Add64 (Virtual 0 Int) (Virtual 0 Int) (Virtual 1 Int))) (Real (general 4) ∷ Real (general 5) ∷ Real (general 6) ∷ []) → ⊥
other_is_not_met h = let e : 5 ≡ 4 = ap number_in h.1.0 in absurd (omega (arith, e))

pub general_can_move : CanMove (Real (general 2)) (Real (general 3)) I64
general_can_move = ((λ h. refl), (λ h. absurd (omega arith)))

pub vector_can_move : CanMove (Real (vector 2)) (Real (vector 3)) I128
vector_can_move = ((λ h. refl), (λ h. (refl, refl)))
