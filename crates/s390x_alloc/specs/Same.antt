-- Registers, places and pairs that are the same.
use Rattle.std.specs.Prelude.{Bool, true, false, ◌&&◌, ◌||◌, nat_eq}
use Rattle.s390x_base.specs.Registers.{RealRegister, general}
use Rattle.s390x_base.specs.declared.regs.Reg.{Reg}
use Rattle.s390x_base.specs.declared.regs.Reg.TheVariants.{Real, Virtual}
use Rattle.s390x_base.specs.declared.regs.RegClass.{RegClass}
use Rattle.s390x_base.specs.declared.regs.RegClass.TheVariants.{Int, Float}
use Rattle.s390x_alloc.specs.declared.plan.EntryPair.{EntryPair}
use Rattle.s390x_alloc.specs.declared.plan.Place.{Place}
use Rattle.s390x_alloc.specs.declared.plan.Place.TheVariants.{Reg as InReg, Slot}

abbrev pub same_class : RegClass → RegClass → Bool
same_class Int Int = true
same_class Int Float = false
same_class Float Int = false
same_class Float Float = true

abbrev pub same_real : RealRegister → RealRegister → Bool
same_real p q = same_class p.class q.class && nat_eq p.number q.number

abbrev pub same_register : Reg → Reg → Bool
same_register (Real p) (Real q) = same_real p q
same_register (Real p) (Virtual n c) = false
same_register (Virtual n c) (Real q) = false
same_register (Virtual n c) (Virtual m d) = nat_eq n m && same_class c d

abbrev pub same_place : Place → Place → Bool
same_place (InReg p) (InReg q) = same_real p q
same_place (InReg p) (Slot t) = false
same_place (Slot s) (InReg q) = false
same_place (Slot s) (Slot t) = nat_eq s t

abbrev pub same_pair : EntryPair → EntryPair → Bool
same_pair x y = same_place x.place y.place && same_register x.vreg y.vreg

-- %r0, %r1 and %r15 are given to no virtual register, and moved to and from nowhere
abbrev pub is_reserved : RealRegister → Bool
is_reserved p = same_real p (general 0) || same_real p (general 1) || same_real p (general 15)
