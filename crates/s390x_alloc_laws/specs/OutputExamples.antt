-- Instructions that the law means, and which registers they may change.
use Rattle.std.specs.Prelude.{◌≡◌, List, [], ◌∷◌, None}
use Rattle.s390x_base.specs.Registers.{general, vector}
use Rattle.s390x_base.specs.declared.regs.Reg.{Reg}
use Rattle.s390x_base.specs.declared.regs.Reg.TheVariants.{Real}
use Rattle.s390x_inst.specs.declared.inst.Inst.{Inst}
use Rattle.s390x_operands.specs.Meets.{Meets}
use Rattle.s390x_operands.specs.Operands.{operands}
use Rattle.s390x_alloc_laws.specs.Allocatable.{Place, Spares, IsAssigned, IsAllocatable, refusal}
use Rattle.s390x_alloc_laws.specs.Outputs.{changeable}

-- all that the law asks of an instruction and its registers stands together, and these may change then
pub record IsMeant (P : Place) (i : Inst) (registers changed : List Reg) : Type 0 where
  pub allocatable : IsAllocatable P i
  pub meet : Meets (operands i) registers
  pub spare : Spares (operands i) registers
  pub instruction : Inst
  pub assigned : IsAssigned i registers instruction
  pub unrefused : refusal P instruction ≡ None
  pub may_change : changeable i registers ≡ changed

abbrev pub load_registers : List Reg
load_registers = Real (general 2) ∷ Real (general 3) ∷ []

-- its offset may need `%r1`
abbrev pub load_changes : List Reg
load_changes = Real (general 2) ∷ Real (general 1) ∷ []

abbrev pub division_registers : List Reg
division_registers = Real (general 4) ∷ Real (general 2) ∷ Real (general 3) ∷ Real (general 3) ∷ []

abbrev pub division_changes : List Reg
division_changes = Real (general 2) ∷ Real (general 3) ∷ []

abbrev pub selection_registers : List Reg
selection_registers = Real (vector 1) ∷ Real (vector 17) ∷ Real (vector 2) ∷ Real (vector 3) ∷ []

abbrev pub selection_changes : List Reg
selection_changes = Real (vector 1) ∷ []
