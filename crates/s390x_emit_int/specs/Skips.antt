-- The length of a move under a condition.
use Rattle.std.specs.Prelude.{Bool, false, ◌&&◌, nat_lt}
use Rattle.s390x_base.specs.Regs.{number_of}
use Rattle.s390x_inst.specs.declared.vec_inst.VecInst.{VecInst}
use Rattle.s390x_inst.specs.declared.vec_inst.VecInst.TheVariants.{FpuCMov32, FpuCMov64}

-- it has two bytes, as one of float registers: both registers are below 16. Else it has six
abbrev pub is_short_move : VecInst → Bool
is_short_move (FpuCMov32 rd mask ri rm) = nat_lt (number_of rd) 16 && nat_lt (number_of rm) 16
is_short_move (FpuCMov64 rd mask ri rm) = nat_lt (number_of rd) 16 && nat_lt (number_of rm) 16
is_short_move v = false
