-- Registers: a class and a number (cranelift-codegen, `regs.rs`).
use Rattle.std.specs.Prelude.{◌≡◌, ◌≢◌, ℕ, ◌+◌, ◌%◌, ◌<◌, Bool, true, false, cond, ◌&&◌, nat_eq, nat_lt, get_or, Option, Some, None}
use Rattle.s390x_base.specs.declared.regs.RegClass.{RegClass}
use Rattle.s390x_base.specs.declared.regs.RegClass.TheVariants.{Int, Float}

-- how many registers a class has: 16 general ones, 32 vector ones
abbrev pub register_count : RegClass → ℕ
register_count Int = 16
register_count Float = 32

-- a real register, as contracts see it
pub record RealRegister : Type 0 where
  pub class : RegClass
  pub number : ℕ

-- the general register of a number
abbrev pub general : ℕ → RealRegister
general n = record { class = Int; number = n }

-- the vector register of a number
abbrev pub vector : ℕ → RealRegister
vector n = record { class = Float; number = n }

-- the number lies in its class
abbrev pub IsRegister : RealRegister → Type 0
IsRegister r = r.number < register_count r.class
