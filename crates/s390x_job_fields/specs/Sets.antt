-- Sets of registers: a list, general registers before vector ones, numbers rising.
use Rattle.std.specs.Prelude.{ℕ, zero, suc, Bool, true, false, List, [], ◌∷◌, ◌++◌, if◌then◌else◌, ◌==◌, ◌&&◌, ◌||◌}
use Rattle.s390x_base.specs.Registers.{RealRegister, general, vector}
use Rattle.s390x_base.specs.declared.regs.RegClass.{RegClass}
use Rattle.s390x_base.specs.declared.regs.RegClass.TheVariants.{Int, Float}

-- the members among the registers of a class below a number
abbrev pub members_below : (ℕ → RealRegister) → (RealRegister → Bool) → ℕ → List RealRegister
members_below of has zero = []
members_below of has (suc n) = members_below of has n ++ (if has (of n) then of n ∷ [] else [])

-- the members of a set, general registers first, numbers rising
unfoldable pub members_of : (RealRegister → Bool) → List RealRegister
members_of has = members_below general has 16 ++ members_below vector has 32

-- whether two classes are the same
abbrev pub same_class : RegClass → RegClass → Bool
same_class Int Int = true
same_class Int Float = false
same_class Float Int = false
same_class Float Float = true

-- whether two registers are the same
abbrev pub same_register : RealRegister → RealRegister → Bool
same_register r q = same_class r.class q.class && (r.number == q.number)

-- whether a register is in a list
abbrev pub is_in : List RealRegister → RealRegister → Bool
is_in [] r = false
is_in (q ∷ qs) r = same_register r q || is_in qs r
