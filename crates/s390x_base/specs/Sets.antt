-- Sets of registers.
use Rattle.std.specs.Prelude.{ℕ, Bool, false, true, get_or, slice_set}
use Rattle.s390x_base.specs.Registers.{RealRegister}
use Rattle.s390x_base.specs.declared.regs.RegClass.{RegClass}
use Rattle.s390x_base.specs.declared.regs.RegClass.TheVariants.{Int, Float}
use Rattle.s390x_base.specs.declared.sets.PRegSet.{PRegSet}

-- which numbers of a class are in the set
abbrev pub members : PRegSet → RegClass → ℕ → Bool
members s Int n = get_or s.general n false
members s Float n = get_or s.vector n false

-- whether a register is in the set
abbrev pub has : PRegSet → RealRegister → Bool
has s r = members s r.class r.number

-- the set with the register of a class and a number
abbrev pub with_number : PRegSet → RegClass → ℕ → PRegSet
with_number s Int n = record s { general = slice_set s.general n true }
with_number s Float n = record s { vector = slice_set s.vector n true }

-- the set with a register
abbrev pub with_register : PRegSet → RealRegister → PRegSet
with_register s r = with_number s r.class r.number
