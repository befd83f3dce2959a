-- Instructions for which it suffices that the constraints are met.
use Rattle.std.specs.Prelude.{ℕ, pos}
use Rattle.s390x_base.specs.declared.regs.Reg.{Reg}
use Rattle.s390x_base.specs.declared.regs.Reg.TheVariants.{Virtual}
use Rattle.s390x_base.specs.declared.regs.RegClass.TheVariants.{Int, Float}
use Rattle.s390x_inst.specs.Memory.{trusted}
use Rattle.s390x_inst.specs.declared.args.MemArg.TheVariants.{RegOffset}
use Rattle.s390x_inst.specs.declared.inst.Inst.{Inst}
use Rattle.s390x_inst.specs.declared.inst.Inst.TheVariants.{Load64, SDivMod64, Vector}
use Rattle.s390x_inst.specs.declared.vec_inst.VecInst.TheVariants.{VecSelect}

abbrev int : ℕ → Reg
int n = Virtual n Int

abbrev float : ℕ → Reg
float n = Virtual n Float

-- a load at an offset that needs a displacement of 20 bits
abbrev pub far_load : Inst
far_load = Load64 (int 0) (RegOffset (int 1) (pos 70000) trusted)

abbrev pub division : Inst
division = SDivMod64 (record { hi = int 0; lo = int 1 }) (int 2) (int 3)

abbrev pub selection : Inst
selection = Vector (VecSelect (float 0) (float 1) (float 2) (float 3))
