-- What contracts say of registers and pairs (cranelift-codegen, `regs.rs`).
use Rattle.std.specs.Prelude.{◌≡◌, ℕ, ◌+◌, ◌%◌, ◌<◌, Bool, true, false, ◌&&◌, nat_eq, Option, Some, None}
use Rattle.s390x_base.specs.Registers.{RealRegister, general, vector}
use Rattle.s390x_base.specs.declared.regs.RegClass.{RegClass}
use Rattle.s390x_base.specs.declared.regs.RegClass.TheVariants.{Int, Float}
use Rattle.s390x_base.specs.declared.regs.Reg.{Reg}
use Rattle.s390x_base.specs.declared.regs.Reg.TheVariants.{Real, Virtual}

-- the class, of a virtual register too
abbrev pub class_of : Reg → RegClass
class_of (Real r) = r.class
class_of (Virtual n c) = c

-- the real register, where it is one
abbrev pub real_of : Reg → Option RealRegister
real_of (Real r) = Some r
real_of (Virtual n c) = None

-- the number, of a virtual register too
abbrev pub number_of : Reg → ℕ
number_of (Real r) = r.number
number_of (Virtual n c) = n

-- a real register of this class
abbrev pub IsReal : RegClass → Reg → Type 0
IsReal c (Real r) = r.class ≡ c
IsReal c (Virtual n k) = false ≡ true

-- the class of general registers
abbrev pub is_int : RegClass → Bool
is_int Int = true
is_int Float = false

-- an even-odd pair: real Int registers, the first even, the second the next one
abbrev pub is_pair : Reg → Reg → Bool
is_pair (Real h) (Real l) = is_int h.class && is_int l.class && nat_eq (h.number % 2) 0 && nat_eq l.number (h.number + 1)
is_pair (Real h) (Virtual n c) = false
is_pair (Virtual n c) r = false
