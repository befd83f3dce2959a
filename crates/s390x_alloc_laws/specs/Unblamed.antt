-- Registers are no cause of refusal in the function that a plan gives.
use Rattle.std.specs.Prelude.{◌≡◌, false, List, [], ◌∷◌, Some, None, ⊤}
use Rattle.s390x_base.specs.Registers.{IsRegister}
use Rattle.s390x_base.specs.declared.regs.Reg.{Reg}
use Rattle.s390x_base.specs.declared.regs.Reg.TheVariants.{Real, Virtual}
use Rattle.s390x_inst.specs.declared.inst.Inst.{Inst}
use Rattle.s390x_inst.specs.declared.state.FrameLayout.{FrameLayout}
use Rattle.s390x_alloc.specs.declared.plan.EntryPair.{EntryPair}
use Rattle.s390x_alloc.specs.declared.plan.Place.{Place}
use Rattle.s390x_alloc.specs.declared.plan.Place.TheVariants.{Reg as InReg, Slot}
use Rattle.s390x_alloc.specs.Moves.{is_no_move, move_inst}
use Rattle.s390x_alloc.specs.Steps.{step_cause}
use Rattle.s390x_alloc_laws.specs.Allocatable as Emitted
use Rattle.s390x_alloc_laws.specs.Allocatable.{IsAllocatable, IsAssigned, IsNotBlamed, refusal}

-- a register that there is, where it is real; each `Reg` of code is one
abbrev pub Exists : Reg → Type 0
Exists (Real p) = IsRegister p
Exists (Virtual n c) = ⊤

abbrev pub AllExist : List Reg → Type 0
AllExist [] = ⊤
AllExist (q ∷ s) = Exists q × AllExist s

abbrev pub PlaceExists : Place → Type 0
PlaceExists (InReg p) = IsRegister p
PlaceExists (Slot s) = ⊤

-- an allocatable instruction with the registers of a step that has no cause of refusal
abbrev pub StepsAreNotBlamed : Type 0
StepsAreNotBlamed =
    (P : Emitted.Place) (i j : Inst) (regs : List Reg) (held : List EntryPair) → IsAllocatable P i → AllExist regs → step_cause i regs held ≡ None → IsAssigned i regs j → IsNotBlamed (refusal P j)

-- the instruction of a move that there is
abbrev pub MovesAreNotBlamed : Type 0
MovesAreNotBlamed =
    (P : Emitted.Place) (layout : FrameLayout) (to from : Place) (held : List EntryPair) (j : Inst) → PlaceExists to → PlaceExists from → is_no_move layout to from held ≡ false → move_inst to from ≡ Some j → IsNotBlamed (refusal P j)
