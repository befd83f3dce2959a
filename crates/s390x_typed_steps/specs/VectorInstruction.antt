-- Vector instructions that are one machine instruction on registers and immediates (cranelift-codegen, `emit.rs`).
use Rattle.std.specs.Prelude.{ℕ, ◌+◌, ◌*◌, pos, Bool, false, cond, ◌&&◌, not, nat_lt, nat_eq, Option, Some, None}
use Rattle.s390x_base.specs.Regs.{number_of, is_int}
use Rattle.s390x_base.specs.declared.regs.Reg.{Reg}
use Rattle.s390x_base.specs.declared.regs.Reg.TheVariants.{Real, Virtual}
use Rattle.s390x_base.specs.declared.trap.TrapKind.{TrapKind}
use Rattle.s390x_base.specs.declared.trap.TrapKind.TheVariants.{IntegerDivisionByZero}
use Rattle.s390x_inst.specs.declared.vec_inst.VecInst.{VecInst}
use Rattle.s390x_inst.specs.declared.vec_inst.VecInst.TheVariants as V
use Rattle.s390x_rows.specs.declared.opcodes.TheConstants as opcodes
use Rattle.s390x_typed_steps.specs.General.{is_general, low_halfword, low_byte}
use Rattle.s390x_typed_steps.specs.MachineInstruction.{MachineInstruction, rr, rre, vri_a, vri_b, vri_c, vri_k, vrr_a, vrr_b, vrr_c, vrr_d, vrr_e, vrr_f, vrs_a, vrs_b, vrs_c}
use Rattle.s390x_typed_steps.specs.VectorOpcodes.{binary_row, unary_row, shift_row, comparison_row, element_comparison_row, is_division}

-- a real vector register
abbrev pub is_vector : Reg → Bool
is_vector (Real r) = not (is_int r.class) && nat_lt r.number 32
is_vector (Virtual num class) = false

-- the code of elements of 8 to 64 bits; none for other sizes
abbrev pub element_code : (size : ℕ) → Option ℕ
element_code size = cond (nat_eq size 8) (Some 0) (cond (nat_eq size 16) (Some 1) (cond (nat_eq size 32) (Some 2) (cond (nat_eq size 64) (Some 3) None)))

-- doublewords of two vectors, by their numbers 0 and 1; none for others
abbrev pub doublewords_row : (d n m first second : ℕ) → Option MachineInstruction
doublewords_row d n m first second = cond (nat_lt first 2 && nat_lt second 2) (Some (vrr_c opcodes.VPDI d n m (4 * first + second))) None

-- an immediate in each element; none where there are no such elements
abbrev pub replicate_row : (code : Option ℕ) → (d bits : ℕ) → Option MachineInstruction
replicate_row None d bits = None
replicate_row (Some code) d bits = Some (vri_a opcodes.VREPI d bits code)

-- the number is one of an element of so many bits
abbrev pub is_lane : (size lane : ℕ) → Bool
is_lane size lane = nat_lt (lane * size) 128

-- a row on one element, by the code of its size; none where there is no such element
abbrev pub lane_row : (ℕ → MachineInstruction) → (code : Option ℕ) → (size lane : ℕ) → Option MachineInstruction
lane_row row None size lane = None
lane_row row (Some code) size lane = cond (is_lane size lane) (Some (row code)) None

-- one element for all
abbrev pub replicate_lane_row : (code : Option ℕ) → (size d n lane : ℕ) → Option MachineInstruction
replicate_lane_row code size d n lane = lane_row (λ c. vri_c opcodes.VREP d n lane c) code size lane

-- ones from a bit to another one in each element; none where there are no such bits
abbrev pub bit_mask_row : (code : Option ℕ) → (size d start end : ℕ) → Option MachineInstruction
bit_mask_row None size d start end = None
bit_mask_row (Some code) size d start end = cond (nat_lt start size && nat_lt end size) (Some (vri_b opcodes.VGM d start end code)) None

-- an immediate in one element, by the code of its size
abbrev pub insert_immediate_opcode : (code : ℕ) → ℕ
insert_immediate_opcode code = cond (nat_eq code 0) opcodes.VLEIB (cond (nat_eq code 1) opcodes.VLEIH (cond (nat_eq code 2) opcodes.VLEIF opcodes.VLEIG))

abbrev pub insert_immediate_row : (code : Option ℕ) → (size d bits lane : ℕ) → Option MachineInstruction
insert_immediate_row code size d bits lane = lane_row (λ c. vri_a (insert_immediate_opcode c) d bits lane) code size lane

-- the low bits of a general register in one element, whose number is a base plus a displacement; none where the displacement isn't an element's number
abbrev pub insert_lane_row : (code : Option ℕ) → (size d n base lane : ℕ) → Option MachineInstruction
insert_lane_row code size d n base lane = lane_row (λ c. vrs_b opcodes.VLVG d base n c lane) code size lane

-- one element, whose number is a base plus a displacement, in a general register
abbrev pub extract_lane_row : (code : Option ℕ) → (size d n base lane : ℕ) → Option MachineInstruction
extract_lane_row code size d n base lane = lane_row (λ c. vrs_c opcodes.VLGV d base n c lane) code size lane

-- the leftmost doubleword of a register that is a float register too
abbrev pub is_float_doubleword : (size v base lane : ℕ) → Bool
is_float_doubleword size v base lane = nat_eq size 64 && nat_eq lane 0 && nat_eq base 0 && nat_lt v 16

-- such a doubleword goes between a float register and a general one, where the other elements may become any
abbrev pub insert_alone_row : (size d n base lane : ℕ) → Option MachineInstruction
insert_alone_row size d n base lane = cond (is_float_doubleword size d base lane) (Some (rre opcodes.LDGR d n)) (insert_lane_row (element_code size) size d n base lane)

abbrev pub extract_row : (size d n base lane : ℕ) → Option MachineInstruction
extract_row size d n base lane = cond (is_float_doubleword size n base lane) (Some (rre opcodes.LGDR d n)) (extract_lane_row (element_code size) size d n base lane)

-- a move of the leftmost bits: of float registers where both are such, else of whole vectors
abbrev pub move_left_row : (opcode d n : ℕ) → MachineInstruction
move_left_row opcode d n = cond (nat_lt d 16 && nat_lt n 16) (rr opcode d n) (vrr_a opcodes.VLR d n 0)

-- a vector register that has to be the output is it
abbrev pub reuses_vector : (output input : Reg) → Bool
reuses_vector output input = is_vector output && is_vector input && nat_eq (number_of output) (number_of input)

-- the machine instruction of a vector instruction, where it is one, and whether its registers may stand there: real ones of the row's classes, and the
-- input that has to be the output is it
pub record VectorInstruction : Type 0 where
  pub operands_valid : Bool
  pub row : Option MachineInstruction

abbrev pub vector_with : Bool → Option MachineInstruction → VectorInstruction
vector_with operands_valid row = record { operands_valid = operands_valid; row = row }

abbrev pub vector_instruction : VecInst → VectorInstruction
vector_instruction (V.VecRRR op rd rn rm) = vector_with (is_vector rd && is_vector rn && is_vector rm) (Some (vrr_c (binary_row op).opcode (number_of rd) (number_of rn) (number_of rm) (binary_row op).code))
vector_instruction (V.VecRR op rd rn) = vector_with (is_vector rd && is_vector rn) (Some (vrr_a (unary_row op).opcode (number_of rd) (number_of rn) (unary_row op).code))
vector_instruction (V.VecSelect rd rn rm ra) = vector_with (is_vector rd && is_vector rn && is_vector rm && is_vector ra) (Some (vrr_e opcodes.VSEL (number_of rd) (number_of rn) (number_of rm) (number_of ra)))
vector_instruction (V.VecPermute rd rn rm ra) = vector_with (is_vector rd && is_vector rn && is_vector rm && is_vector ra) (Some (vrr_e opcodes.VPERM (number_of rd) (number_of rn) (number_of rm) (number_of ra)))
vector_instruction (V.VecBlend rd rn rm ra) = vector_with (is_vector rd && is_vector rn && is_vector rm && is_vector ra) (Some (vrr_d opcodes.VBLEND (number_of rd) (number_of rn) (number_of rm) (number_of ra) 0))
vector_instruction (V.VecIntCmp op rd rn rm) = vector_with (is_vector rd && is_vector rn && is_vector rm) (Some (vrr_b (comparison_row op).opcode (number_of rd) (number_of rn) (number_of rm) (comparison_row op).code 0))
-- the second mask asks for the condition code
vector_instruction (V.VecIntCmpS op rd rn rm) = vector_with (is_vector rd && is_vector rn && is_vector rm) (Some (vrr_b (comparison_row op).opcode (number_of rd) (number_of rn) (number_of rm) (comparison_row op).code 1))
vector_instruction (V.VecIntEltCmp op rn rm) = vector_with (is_vector rn && is_vector rm) (Some (vrr_a (element_comparison_row op).opcode (number_of rn) (number_of rm) (element_comparison_row op).code))
vector_instruction (V.VecMov rd rn) = vector_with (is_vector rd && is_vector rn) (Some (vrr_a opcodes.VLR (number_of rd) (number_of rn) 0))
vector_instruction (V.VecShiftRR op rd rn amount register) = vector_with (is_vector rd && is_vector rn && is_general register) (Some (vrs_a (shift_row op).opcode (number_of rd) (number_of register) (number_of rn) (shift_row op).code (low_byte amount)))
vector_instruction (V.VecEvaluate imm rd rn rm ra) = vector_with (is_vector rd && is_vector rn && is_vector rm && is_vector ra) (Some (vri_k opcodes.VEVAL (low_byte imm) (number_of rd) (number_of rn) (number_of rm) (number_of ra)))
vector_instruction (V.VecPermuteDWImm rd rn rm first second) = vector_with (is_vector rd && is_vector rn && is_vector rm) (doublewords_row (number_of rd) (number_of rn) (number_of rm) first second)
vector_instruction (V.MovToVec128 rd rn rm) = vector_with (is_vector rd && is_general rn && is_general rm) (Some (vrr_f opcodes.VLVGP (number_of rd) (number_of rn) (number_of rm)))
vector_instruction (V.VecImmByteMask rd mask) = vector_with (is_vector rd) (Some (vri_a opcodes.VGBM (number_of rd) (low_halfword (pos mask)) 0))
vector_instruction (V.VecImmReplicate size rd imm) = vector_with (is_vector rd) (replicate_row (element_code size) (number_of rd) (low_halfword imm))
vector_instruction (V.VecImmBitMask size rd start end) = vector_with (is_vector rd) (bit_mask_row (element_code size) size (number_of rd) start end)
vector_instruction (V.VecReplicateLane size rd rn lane) = vector_with (is_vector rd && is_vector rn) (replicate_lane_row (element_code size) size (number_of rd) (number_of rn) lane)
vector_instruction (V.VecInsertLaneImm size rd ri imm lane) = vector_with (reuses_vector rd ri) (insert_immediate_row (element_code size) size (number_of rd) (low_halfword imm) lane)
vector_instruction (V.VecInsertLaneImmUndef size rd imm lane) = vector_with (is_vector rd) (insert_immediate_row (element_code size) size (number_of rd) (low_halfword imm) lane)
vector_instruction (V.VecInsertLane size rd ri rn lane base) = vector_with (reuses_vector rd ri && is_general rn && is_general base) (insert_lane_row (element_code size) size (number_of rd) (number_of rn) (number_of base) lane)
vector_instruction (V.VecInsertLaneUndef size rd rn lane base) = vector_with (is_vector rd && is_general rn && is_general base) (insert_alone_row size (number_of rd) (number_of rn) (number_of base) lane)
vector_instruction (V.VecExtractLane size rd rn lane base) = vector_with (is_general rd && is_vector rn && is_general base) (extract_row size (number_of rd) (number_of rn) (number_of base) lane)
vector_instruction (V.FpuMove32 rd rn) = vector_with (is_vector rd && is_vector rn) (Some (move_left_row opcodes.LER (number_of rd) (number_of rn)))
vector_instruction (V.FpuMove64 rd rn) = vector_with (is_vector rd && is_vector rn) (Some (move_left_row opcodes.LDR (number_of rd) (number_of rn)))
vector_instruction _ = vector_with false None

abbrev pub vector_row : VecInst → Option MachineInstruction
vector_row v = (vector_instruction v).row

abbrev pub vector_operands_valid : VecInst → Bool
vector_operands_valid v = (vector_instruction v).operands_valid

-- a division, which may stop by its values
abbrev pub divides : VecInst → Bool
divides (V.VecRRR op rd rn rm) = is_division op
divides _ = false

-- the code of the stop of a division
abbrev pub vector_stop : VecInst → Option TrapKind
vector_stop v = cond (divides v) (Some IntegerDivisionByZero) None
