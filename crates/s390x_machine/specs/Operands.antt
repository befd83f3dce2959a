-- Values of registers, as operands (Principles of Operation, chapter 7, "General instructions").
use Rattle.std.specs.Prelude.{ℕ, zero, suc, ◌+◌, ℤ, pos, ◌+ℤ◌, ◌%◌, ◌^◌, ◌==◌, List, [], ◌∷◌, Bool, true, false, if◌then◌else◌}
use Rattle.s390x_lanes.specs.declared.operators.Signedness.TheVariants.{Unsigned}
use Rattle.s390x_operations.specs.Numbers.{low}
use Rattle.s390x_operations.specs.Bits.{rotate_value}
use Rattle.s390x_operations.specs.declared.size.Width.TheVariants.{Bits64}
use Rattle.s390x_operations.specs.declared.operand.Source.TheVariants.{Value}
use Rattle.s390x_operations.specs.declared.operand.Operand.{Operand}
use Rattle.s390x_operations.specs.declared.effect.Effect.TheVariants.{Nothing}
use Rattle.s390x_operations.specs.declared.effect.CodeRule.TheVariants.{Kept}
use Rattle.s390x_operations.specs.declared.effect.Operation.{Operation}
use Rattle.s390x_operations.specs.State.{Registers}
use Rattle.s390x_operations.specs.declared.size.Size.{Size}
use Rattle.s390x_operations.specs.declared.size.Size.TheVariants.{Halfword, Word, Doubleword}

-- the part of a register that a size names
abbrev pub value_in : Size → Registers → ℕ → ℕ
value_in Halfword r i = r.general i % 2 ^ 16
value_in Word r i = r.general i % 2 ^ 32
value_in Doubleword r i = r.general i

-- a base or an index: register 0 counts as zero (chapter 5, "Address generation")
abbrev pub address_part : Registers → ℕ → ℕ
address_part r i = if i == 0 then 0 else r.general i

-- a base plus an index plus a displacement, modulo 2 ^ 64
abbrev pub address_by_index : Registers → (base index : ℕ) → (displacement : ℤ) → ℕ
address_by_index r base index displacement = low Doubleword (pos (address_part r base + address_part r index) +ℤ displacement)

-- a base plus a displacement, modulo 2 ^ 64
abbrev pub address_by_base : Registers → (base : ℕ) → (displacement : ℤ) → ℕ
address_by_base r base displacement = low Doubleword (pos (address_part r base) +ℤ displacement)

-- the values of n registers from one on, register 0 after 15
abbrev pub values_from : Registers → (first n : ℕ) → List ℕ
values_from r first zero = []
values_from r first (suc n) = r.general (first % 16) ∷ values_from r (first + 1) n

-- a register rotated to the left by so many bits, as an operand
abbrev pub rotated_operand : Registers → (register amount : ℕ) → Operand
rotated_operand r register amount = record { source = Value (rotate_value Doubleword (r.general register) amount); width = Bits64; sign = Unsigned; reversed = false }

-- an operation where a condition holds, and nothing elsewhere
abbrev pub performed_where : Bool → Operation → Operation
performed_where true operation = operation
performed_where false operation = record { effect = Nothing; rule = Kept }
