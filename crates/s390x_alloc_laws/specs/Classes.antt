-- Values in registers of their class.
use Rattle.std.specs.Prelude.{◌≡◌, Bool, List, [], ◌∷◌, Ok, ⊤}
use Rattle.s390x_base.specs.declared.regs.Reg.{Reg}
use Rattle.s390x_base.specs.declared.regs.Reg.TheVariants.{Real, Virtual}
use Rattle.s390x_inst.specs.declared.inst.Inst.{Inst}
use Rattle.s390x_inst.specs.declared.state.FrameLayout.{FrameLayout}
use Rattle.s390x_alloc.specs.declared.plan.Edit.{Edit}
use Rattle.s390x_alloc.specs.declared.plan.EntryPair.{EntryPair}
use Rattle.s390x_alloc.specs.declared.plan.Place.{Place}
use Rattle.s390x_alloc.specs.declared.plan.Place.TheVariants.{Reg as InReg, Slot}
use Rattle.s390x_alloc.specs.Blocks.{after_edit}

-- a register holds the values of virtual registers of its class alone; a slot holds any
abbrev pub IsInItsClass : Place → Reg → Type 0
IsInItsClass (InReg p) (Real q) = ⊤
IsInItsClass (InReg p) (Virtual n c) = c ≡ p.class
IsInItsClass (Slot s) r = ⊤

-- each register of all that is held holds values of virtual registers of its class alone
abbrev pub AreInTheirClass : List EntryPair → Type 0
AreInTheirClass [] = ⊤
AreInTheirClass (x ∷ xs) = IsInItsClass x.place x.vreg × AreInTheirClass xs

-- no edit without a fault changes that
abbrev pub EditsKeepClasses : Type 0
EditsKeepClasses =
    (layout : FrameLayout) (ends : Bool) (e : Edit) (is : List Inst) (held behind : List EntryPair) → after_edit layout ends e is held ≡ Ok behind → AreInTheirClass held → AreInTheirClass behind
