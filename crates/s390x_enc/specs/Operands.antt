-- What an instruction asks of its register operands.
use Rattle.std.specs.Prelude.{ℕ, ◌+◌, ◌*◌, ◌/◌, Bool, true, false, ◌&&◌, ◌||◌, ◌==◌, nat_lt, Option, Some, None, cond}
use Rattle.s390x_base.specs.declared.regs.Reg.{Reg}
use Rattle.s390x_base.specs.declared.regs.Reg.TheVariants.{Real, Virtual}
use Rattle.s390x_base.specs.declared.regs.RegClass.{RegClass}
use Rattle.s390x_base.specs.declared.regs.RegClass.TheVariants.{Int, Float}
use Rattle.s390x_base.specs.Regs.{number_of}
use Rattle.s390x_rows.specs.declared.opcodes.TheConstants as opcodes

-- the class of general registers
abbrev pub is_int_class : RegClass → Bool
is_int_class Int = true
is_int_class Float = false

-- a real Int register
abbrev pub is_general_class : Reg → Bool
is_general_class (Real r) = is_int_class r.class
is_general_class (Virtual n c) = false

-- the class of vector and float registers
abbrev pub is_float_class : RegClass → Bool
is_float_class Int = false
is_float_class Float = true

-- a real Float register
abbrev pub is_vector : Reg → Bool
is_vector (Real r) = is_float_class r.class
is_vector (Virtual n c) = false

-- a real Float register below 16, which has a float register in its leftmost 64 bits
abbrev pub is_float : Reg → Bool
is_float (Real r) = is_float_class r.class && nat_lt r.number 16
is_float (Virtual n c) = false

-- the opcodes whose first register operand is a float register: LER, LDR, LE, LD, STE, STD, LEY,
-- LDY, STEY, STDY, LDGR
abbrev pub is_first_float : ℕ → Bool
is_first_float o =
    (o == opcodes.LDR) || (o == opcodes.LER) || (o == opcodes.STD) || (o == opcodes.LD) || (o == opcodes.STE) || (o == opcodes.LE)
    || (o == opcodes.LEY) || (o == opcodes.LDY) || (o == opcodes.STEY) || (o == opcodes.STDY) || (o == opcodes.LDGR)

-- and those whose second one is: LER, LDR, LGDR
abbrev pub is_second_float : ℕ → Bool
is_second_float o = (o == opcodes.LDR) || (o == opcodes.LER) || (o == opcodes.LGDR)

-- the register may stand first in an instruction with this opcode, on general and float registers
abbrev pub may_stand_first : ℕ → Reg → Bool
may_stand_first o r = cond (is_first_float o) (is_float r) (is_general_class r)

-- the register may stand second there
abbrev pub may_stand_second : ℕ → Reg → Bool
may_stand_second o r = cond (is_second_float o) (is_float r) (is_general_class r)

-- the bit above the four low ones of a register's number, where a register is given
abbrev pub high_bit : Option Reg → ℕ
high_bit None = 0
high_bit (Some r) = number_of r / 16

-- none is given, or a real Float register
abbrev pub is_vector_or_none : Option Reg → Bool
is_vector_or_none None = true
is_vector_or_none (Some r) = is_vector r

-- the sum of 8, 4, 2, 1 for those of 16 and above
abbrev pub rxb_of : Option Reg → Option Reg → Option Reg → Option Reg → ℕ
rxb_of a b c d = 8 * high_bit a + 4 * high_bit b + 2 * high_bit c + high_bit d
