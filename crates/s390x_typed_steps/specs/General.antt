-- The registers that an instruction may name, and the bits of its immediates (cranelift-codegen, `emit.rs`).
use Rattle.std.specs.Prelude.{ℕ, ℤ, pos, unsigned_abs, Bool, false, true, ◌&&◌, not, nat_lt, nat_eq, ◌%◌}
use Rattle.std.specs.Int.{int_rem_euclid}
use Rattle.s390x_base.specs.Regs.{is_int, number_of, is_pair}
use Rattle.s390x_base.specs.declared.regs.Reg.{Reg}
use Rattle.s390x_base.specs.declared.regs.RegPair.{RegPair}
use Rattle.s390x_base.specs.declared.regs.WritableRegPair.{WritableRegPair}
use Rattle.s390x_base.specs.declared.regs.Reg.TheVariants.{Real, Virtual}

-- a real Int register
abbrev pub is_general : Reg → Bool
is_general (Real r) = is_int r.class && nat_lt r.number 16
is_general (Virtual num class) = false

-- a register other than %r0, which as a branch's target means that there is no branch
abbrev pub is_nonzero : Reg → Bool
is_nonzero (Real r) = not (nat_eq r.number 0)
is_nonzero (Virtual num class) = true

-- %r1, which emission uses for itself
abbrev pub is_scratch : Reg → Bool
is_scratch (Real r) = nat_eq r.number 1
is_scratch (Virtual num class) = false

-- an input that has to be the output is it
abbrev pub reuses : (output input : Reg) → Bool
reuses output input = is_general output && is_general input && nat_eq (number_of output) (number_of input)

-- an even register and the next one
abbrev pub is_even_pair : (high low : Reg) → Bool
is_even_pair high low = is_general high && is_general low && is_pair high low

-- a pair of inputs that has to be that of the outputs is it
abbrev pub reuses_pair : (output : WritableRegPair) (input : RegPair) → Bool
reuses_pair output input = reuses output.hi input.hi && reuses output.lo input.lo

-- the low 16 bits of an immediate, in two's complement
abbrev pub low_halfword : ℤ → ℕ
low_halfword z = unsigned_abs (int_rem_euclid z (pos 65536))

-- the low 32 bits of an immediate, in two's complement
abbrev pub low_word : ℤ → ℕ
low_word z = unsigned_abs (int_rem_euclid z (pos 4294967296))

-- the low 20 bits of a displacement, in two's complement
abbrev pub low_displacement : ℤ → ℕ
low_displacement z = unsigned_abs (int_rem_euclid z (pos 1048576))

-- the low 12 bits of a displacement
abbrev pub low_12 : ℕ → ℕ
low_12 n = n % 4096

-- the low 4 bits, of a mask or of an access register's number
abbrev pub four_bits : ℕ → ℕ
four_bits n = n % 16

-- an amount of 8 bits
abbrev pub low_byte : ℕ → ℕ
low_byte n = n % 256

-- how far bits are rotated to the left: an amount to the right counts as one to the left
abbrev pub rotation : ℤ → ℕ
rotation z = unsigned_abs (int_rem_euclid z (pos 64))

-- the number of an access register
abbrev pub is_access : ℕ → Bool
is_access n = nat_lt n 16
