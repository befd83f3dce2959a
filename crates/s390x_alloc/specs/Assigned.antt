-- The operands of an instruction with the registers that a plan gives them.
use Rattle.std.specs.Prelude.{ℕ, ◌+◌, Bool, true, false, List, [], ◌∷◌, ◌++◌, length, Option, Some, None, slice_get}
use Rattle.s390x_base.specs.declared.regs.Reg.{Reg}
use Rattle.s390x_operands.specs.declared.constraint.Reported.{Reported}
use Rattle.s390x_operands.specs.declared.constraint.Reported.TheVariants.{Operand, Fixed, Clobbers}
use Rattle.s390x_alloc.specs.declared.assigned.GivenOperand.{GivenOperand}

abbrev pub is_operand : Reported → Bool
is_operand (Operand reg constraint kind pos) = true
is_operand (Fixed p) = false
is_operand (Clobbers s) = false

-- an item with a register, where it is an operand and there is one
abbrev pub given_operand : Reported → Option Reg → List GivenOperand
given_operand (Operand reg constraint kind pos) (Some q) = record { reg = reg; constraint = constraint; kind = kind; given = q } ∷ []
given_operand (Operand reg constraint kind pos) None = []
given_operand (Fixed p) o = []
given_operand (Clobbers s) o = []

-- the operands among the items, each with the register of its number: so many operands stand before these
abbrev pub given_behind : (before : ℕ) → List Reported → List Reg → List GivenOperand
given_behind before [] regs = []
given_behind before (x ∷ xs) regs = let here = given_operand x (slice_get regs before) in here ++ given_behind (before + length here) xs regs

abbrev pub given_operands : List Reported → List Reg → List GivenOperand
given_operands items regs = given_behind 0 items regs
