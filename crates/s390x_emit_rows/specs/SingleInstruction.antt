-- What the look-up of an instruction that is one machine instruction takes.
use Rattle.std.specs.Prelude.{ℕ, Bool, true, not, ◌&&◌, ◌||◌, Option, None, Some}
use Rattle.s390x_enc.specs.Operands.{is_first_float, is_second_float}
use Rattle.s390x_emit_rows.specs.declared.opcode.ShortOpcode.{ShortOpcode}

-- the number of an opcode of three digits
abbrev pub opcode_of : ShortOpcode → ℕ
opcode_of o = o.value

-- where the first test holds, the second does
abbrev pub implies : Bool → Bool → Bool
implies s t = not s || t

-- the opcode's register operands are general ones; no opcode has any
abbrev pub takes_general : Option ℕ → Bool
takes_general None = true
takes_general (Some opcode) = not (is_first_float opcode) && not (is_second_float opcode)
