-- Vector instructions that are several machine instructions (cranelift-codegen, `emit.rs`).
use Rattle.std.specs.Prelude.{ℕ, ◌+◌, ◌-◌, ◌/◌, Bool, ◌&&◌, cond, nat_eq, List, [], ◌∷◌, Option, Some, None}
use Rattle.s390x_base.specs.Regs.{number_of}
use Rattle.s390x_base.specs.declared.error.EmitError.{EmitError}
use Rattle.s390x_base.specs.declared.error.EmitError.TheVariants.{BadOperator, BadRegister}
use Rattle.s390x_inst.specs.declared.vec_inst.VecInst.{VecInst}
use Rattle.s390x_inst.specs.declared.vec_inst.VecInst.TheVariants as V
use Rattle.s390x_rows.specs.declared.opcodes.TheConstants as opcodes
use Rattle.s390x_typed_steps.specs.General.{four_bits}
use Rattle.s390x_typed_steps.specs.MachineInstruction.{MachineInstruction, size_of, ri_c, vrr_a, vrr_b, vrr_c, vrs_a}
use Rattle.s390x_typed_steps.specs.VectorInstruction.{is_vector, move_left_row, reuses_vector}

-- a move that is done where the mask selects the condition code, and whether its registers may stand there
pub record MoveUnder : Type 0 where
  pub mask : ℕ
  pub row : MachineInstruction
  pub operands_valid : Bool

-- the vector instructions that are such a move
abbrev pub move_under : VecInst → Option MoveUnder
move_under (V.FpuCMov32 rd mask ri rm) = Some (record { mask = four_bits mask; row = move_left_row opcodes.LER (number_of rd) (number_of rm); operands_valid = reuses_vector rd ri && is_vector rm })
move_under (V.FpuCMov64 rd mask ri rm) = Some (record { mask = four_bits mask; row = move_left_row opcodes.LDR (number_of rd) (number_of rm); operands_valid = reuses_vector rd ri && is_vector rm })
move_under (V.VecCMov rd mask ri rm) = Some (record { mask = four_bits mask; row = vrr_a opcodes.VLR (number_of rd) (number_of rm) 0; operands_valid = reuses_vector rd ri && is_vector rm })
move_under _ = None

-- BRANCH RELATIVE ON CONDITION over a machine instruction, under the codes that the mask doesn't select, and that instruction
abbrev pub skipping : (mask : ℕ) → MachineInstruction → List MachineInstruction
skipping mask row = ri_c opcodes.BRC (15 - mask) ((4 + size_of row) / 2) ∷ row ∷ []

-- the machine instructions of such a move
abbrev pub rows_under : Option MoveUnder → List MachineInstruction
rows_under None = []
rows_under (Some x) = skipping x.mask x.row

-- PERMUTE DOUBLEWORD IMMEDIATE of one register: its doublewords change places
abbrev pub exchanges_doublewords : (d n : ℕ) → MachineInstruction
exchanges_doublewords d n = vrr_c opcodes.VPDI d n n 4

-- ELEMENT ROTATE LEFT LOGICAL by half of each element, whose size has a code: the element's halves change places
abbrev pub exchanges_halves : (d code half : ℕ) → MachineInstruction
exchanges_halves d code half = vrs_a opcodes.VERLL d 0 d code half

-- so many elements in reverse order: the doublewords change places, then the halves of each doubleword, of each word and of each halfword, down to the
-- elements. None for another count
abbrev pub reversing_rows : (count d n : ℕ) → Option (List MachineInstruction)
reversing_rows count d n =
    cond (nat_eq count 2) (Some (exchanges_doublewords d n ∷ []))
    (cond (nat_eq count 4) (Some (exchanges_doublewords d n ∷ exchanges_halves d 3 32 ∷ []))
    (cond (nat_eq count 8) (Some (exchanges_doublewords d n ∷ exchanges_halves d 3 32 ∷ exchanges_halves d 2 16 ∷ []))
    (cond (nat_eq count 16) (Some (exchanges_doublewords d n ∷ exchanges_halves d 3 32 ∷ exchanges_halves d 2 16 ∷ exchanges_halves d 1 8 ∷ [])) None)))

-- ELEMENT COMPARE (or its logical form, by its opcode) of the left doublewords of m and n; where they differ a branch skips COMPARE HIGH LOGICAL of n and m,
-- which tells of the right ones
abbrev pub comparing_rows : (opcode tmp n m : ℕ) → List MachineInstruction
comparing_rows opcode tmp n m = vrr_a opcode m n 3 ∷ ri_c opcodes.BRC 7 5 ∷ vrr_b opcodes.VCHL tmp n m 3 1 ∷ []

-- the machine instructions, where there are some
abbrev pub rows_or_none : Option (List MachineInstruction) → List MachineInstruction
rows_or_none None = []
rows_or_none (Some rows) = rows

-- those of a vector instruction that is several; none of another one
abbrev pub composite_rows : VecInst → List MachineInstruction
composite_rows (V.VecEltRev count rd rn) = rows_or_none (reversing_rows count (number_of rd) (number_of rn))
composite_rows (V.VecInt128SCmpHi tmp rn rm) = comparing_rows opcodes.VEC (number_of tmp) (number_of rn) (number_of rm)
composite_rows (V.VecInt128UCmpHi tmp rn rm) = comparing_rows opcodes.VECL (number_of tmp) (number_of rn) (number_of rm)
composite_rows v = rows_under (move_under v)

-- why such a move is refused; another instruction isn't one
abbrev pub cause_under : Option MoveUnder → Option EmitError
cause_under None = Some BadOperator
cause_under (Some x) = cond x.operands_valid None (Some BadRegister)

-- why the machine instructions are refused: there are none, or the registers may not stand there
abbrev pub rows_cause : Option (List MachineInstruction) → (operands_valid : Bool) → Option EmitError
rows_cause None operands_valid = Some BadOperator
rows_cause (Some rows) operands_valid = cond operands_valid None (Some BadRegister)

-- why a vector instruction that is several machine instructions is refused; another one has no row
abbrev pub composite_cause : VecInst → Option EmitError
composite_cause (V.VecEltRev count rd rn) = rows_cause (reversing_rows count (number_of rd) (number_of rn)) (is_vector rd && is_vector rn)
composite_cause (V.VecInt128SCmpHi tmp rn rm) = cond (is_vector tmp && is_vector rn && is_vector rm) None (Some BadRegister)
composite_cause (V.VecInt128UCmpHi tmp rn rm) = cond (is_vector tmp && is_vector rn && is_vector rm) None (Some BadRegister)
composite_cause v = cause_under (move_under v)
