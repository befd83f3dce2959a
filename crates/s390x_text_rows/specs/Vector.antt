-- The texts of instructions on vector and float registers (cranelift-codegen, `mod.rs`).
use Rattle.std.specs.Prelude.{ℕ, ◌+◌, ◌*◌, ◌-◌, List, [], ◌∷◌, ◌++◌, codes, Bool, cond, ◌&&◌, nat_eq, nat_lt, Option, Some, None}
use Rattle.std.specs.Fmt.{decimal, signed_decimal}
use Rattle.s390x_base.specs.declared.regs.Reg.{Reg}
use Rattle.s390x_inst.specs.Emission.{Emission}
use Rattle.s390x_inst.specs.declared.args.MemArg.{MemArg}
use Rattle.s390x_inst.specs.Wholes.{as_whole, by_whole}
use Rattle.s390x_inst.specs.declared.vec_inst.VecInst.{VecInst}
use Rattle.s390x_inst.specs.declared.vec_inst.VecInst.TheVariants as V
use Rattle.s390x_inst.specs.declared.vec_ops.VecBinaryOp.{VecBinaryOp}
use Rattle.s390x_inst.specs.declared.vec_ops.VecBinaryOp.TheVariants.{UDiv32x4, UDiv64x2, UDiv128, SDiv32x4, SDiv64x2, SDiv128, URem32x4, URem64x2, URem128, SRem32x4, SRem64x2, SRem128}
use Rattle.s390x_format.specs.Stems.{stem_of}
use Rattle.s390x_rows.specs.declared.opcodes.TheConstants as opcodes
use Rattle.s390x_job_fields.specs.Atoms.{reg_text}
use Rattle.s390x_text_rows.specs.Texts.{Text, row, fixed_text, instruction_text, text_or}
use Rattle.s390x_text_rows.specs.Operands.{reused_text, amount_text, cond_text, is_float, float_text, is_zero}
use Rattle.s390x_text_rows.specs.Storage.{rx, access}
use Rattle.s390x_text_rows.specs.VectorMnemonics.{vec_binary_name, vec_unary_name, vec_shift_name, vec_compare_name, vec_compare_set_name, vec_element_compare_name, whole_name}

-- ---- mnemonics that a width and a lane choose

-- by the width of a lane in bits: no row for another width, or where there are no so many lanes
abbrev pub lane_name : (b h f g : List ℕ) → (size lane : ℕ) → Option (List ℕ)
lane_name b h f g size lane =
    cond (nat_eq size 8 && nat_lt lane 16) (Some b)
    (cond (nat_eq size 16 && nat_lt lane 8) (Some h) (cond (nat_eq size 32 && nat_lt lane 4) (Some f) (cond (nat_eq size 64 && nat_lt lane 2) (Some g) None)))

-- by the width of a lane in bits from 16 on, where bytes are reversed
abbrev pub reversed_name : (h f g : List ℕ) → (size lane : ℕ) → Option (List ℕ)
reversed_name h f g size lane = cond (nat_eq size 16 && nat_lt lane 8) (Some h) (cond (nat_eq size 32 && nat_lt lane 4) (Some f) (cond (nat_eq size 64 && nat_lt lane 2) (Some g) None))

-- a stem with the letter of a lane's width
abbrev pub replicated_name : List ℕ → (size : ℕ) → Option (List ℕ)
replicated_name s size = lane_name (s ++ codes "b") (s ++ codes "h") (s ++ codes "f") (s ++ codes "g") size 0

-- from 16 bits on, where bytes are reversed
abbrev pub reversed_replicated_name : List ℕ → (size : ℕ) → Option (List ℕ)
reversed_replicated_name s size = reversed_name (s ++ codes "h") (s ++ codes "f") (s ++ codes "g") size 0

-- both bit numbers lie below the width
abbrev pub mask_name : (size start end : ℕ) → Option (List ℕ)
mask_name size start end = cond (nat_lt start size && nat_lt end size) (lane_name (codes "vgmb") (codes "vgmh") (codes "vgmf") (codes "vgmg") size 0) None

-- ---- rows

-- divisions show a mask
abbrev pub vec_binary_operands : VecBinaryOp → (rd rn rm : Reg) → List (List ℕ)
vec_binary_operands UDiv32x4 rd rn rm = reg_text rd ∷ reg_text rn ∷ reg_text rm ∷ decimal 0 ∷ []
vec_binary_operands UDiv64x2 rd rn rm = reg_text rd ∷ reg_text rn ∷ reg_text rm ∷ decimal 0 ∷ []
vec_binary_operands UDiv128 rd rn rm = reg_text rd ∷ reg_text rn ∷ reg_text rm ∷ decimal 0 ∷ []
vec_binary_operands SDiv32x4 rd rn rm = reg_text rd ∷ reg_text rn ∷ reg_text rm ∷ decimal 0 ∷ []
vec_binary_operands SDiv64x2 rd rn rm = reg_text rd ∷ reg_text rn ∷ reg_text rm ∷ decimal 0 ∷ []
vec_binary_operands SDiv128 rd rn rm = reg_text rd ∷ reg_text rn ∷ reg_text rm ∷ decimal 0 ∷ []
vec_binary_operands URem32x4 rd rn rm = reg_text rd ∷ reg_text rn ∷ reg_text rm ∷ decimal 0 ∷ []
vec_binary_operands URem64x2 rd rn rm = reg_text rd ∷ reg_text rn ∷ reg_text rm ∷ decimal 0 ∷ []
vec_binary_operands URem128 rd rn rm = reg_text rd ∷ reg_text rn ∷ reg_text rm ∷ decimal 0 ∷ []
vec_binary_operands SRem32x4 rd rn rm = reg_text rd ∷ reg_text rn ∷ reg_text rm ∷ decimal 0 ∷ []
vec_binary_operands SRem64x2 rd rn rm = reg_text rd ∷ reg_text rn ∷ reg_text rm ∷ decimal 0 ∷ []
vec_binary_operands SRem128 rd rn rm = reg_text rd ∷ reg_text rn ∷ reg_text rm ∷ decimal 0 ∷ []
vec_binary_operands _ rd rn rm = reg_text rd ∷ reg_text rn ∷ reg_text rm ∷ []

-- doublewords are chosen by 0 or 1
abbrev pub doublewords_text : (rd rn rm : Reg) → (idx1 idx2 : ℕ) → Text
doublewords_text rd rn rm idx1 idx2 =
    row (cond (nat_lt idx1 2 && nat_lt idx2 2) (Some (codes "vpdi")) None) (reg_text rd ∷ reg_text rn ∷ reg_text rm ∷ decimal (4 * idx1 + idx2) ∷ [])

-- a comparison of two numbers of 128 bits: their left halves, and where these are equal their right ones
abbrev pub wide_compare_text : List ℕ → (tmp rn rm : Reg) → List ℕ
wide_compare_text name tmp rn rm = instruction_text name (reg_text rm ∷ reg_text rn ∷ []) ++ (codes " ; jne 10 ; " ++ instruction_text (codes "vchlgs") (reg_text tmp ∷ reg_text rn ∷ reg_text rm ∷ []))

-- both registers are float registers
abbrev pub are_floats : (r s : Reg) → Bool
are_floats r s = is_float r && is_float s

-- a move of float registers, or of whole ones
abbrev pub float_move_text : List ℕ → (rd rn : Reg) → List ℕ
float_move_text name rd rn = cond (are_floats rd rn) (instruction_text name (float_text rd ∷ float_text rn ∷ [])) (instruction_text (codes "vlr") (reg_text rd ∷ reg_text rn ∷ []))

-- a branch over what follows, where a condition doesn't hold
abbrev pub unless_text : (mask : ℕ) → (over : List ℕ) → List ℕ
unless_text mask over = codes "j" ++ (cond_text (15 - mask) ++ (codes " " ++ (over ++ codes " ; ")))

-- a move where a condition holds, over whose bytes a branch goes
abbrev pub float_cmov_text : List ℕ → (rd : Reg) → (mask : ℕ) → (rm : Reg) → List ℕ
float_cmov_text name rd mask rm = unless_text mask (cond (are_floats rd rm) (codes "6") (codes "10")) ++ float_move_text name rd rm

-- a general register into lane 0 of 64 bits: a float register, where the lane has no register
abbrev pub is_float_lane : (size : ℕ) → Reg → (lane : ℕ) → Reg → Bool
is_float_lane size r lane lane_reg = nat_eq size 64 && nat_eq lane 0 && is_zero lane_reg && is_float r

-- doublewords in reverse order; and then halves of them, by rotation, on the register itself, until lanes are
abbrev pub reverse2_text : (rd rn : Reg) → List ℕ
reverse2_text rd rn = instruction_text (codes "vpdi") (reg_text rd ∷ reg_text rn ∷ reg_text rn ∷ decimal 4 ∷ [])

abbrev pub reverse4_text : (rd rn : Reg) → List ℕ
reverse4_text rd rn = reverse2_text rd rn ++ (codes " ; " ++ instruction_text (codes "verllg") (reg_text rd ∷ reg_text rd ∷ decimal 32 ∷ []))

abbrev pub reverse8_text : (rd rn : Reg) → List ℕ
reverse8_text rd rn = reverse4_text rd rn ++ (codes " ; " ++ instruction_text (codes "verllf") (reg_text rd ∷ reg_text rd ∷ decimal 16 ∷ []))

abbrev pub reverse16_text : (rd rn : Reg) → List ℕ
reverse16_text rd rn = reverse8_text rd rn ++ (codes " ; " ++ instruction_text (codes "verllh") (reg_text rd ∷ reg_text rd ∷ decimal 8 ∷ []))

-- by the count of lanes
abbrev pub reverse_text : (rd rn : Reg) → (count : ℕ) → Text
reverse_text rd rn count =
    cond (nat_eq count 2) (fixed_text (reverse2_text rd rn))
    (cond (nat_eq count 4) (fixed_text (reverse4_text rd rn)) (cond (nat_eq count 8) (fixed_text (reverse8_text rd rn)) (cond (nat_eq count 16) (fixed_text (reverse16_text rd rn)) (row None []))))

-- a load of lane 0 into a float register, or of a lane
abbrev pub load_lane_text : Emission → (size : ℕ) → Reg → MemArg → (lane : ℕ) → Text
load_lane_text e size rd mem lane =
    cond (is_float rd && nat_eq lane 0 && nat_eq size 32) (access (rx (Some (stem_of opcodes.LE)) (Some (stem_of opcodes.LEY)) None) e (float_text rd ∷ []) mem [])
    (cond (is_float rd && nat_eq lane 0 && nat_eq size 64) (access (rx (Some (stem_of opcodes.LD)) (Some (stem_of opcodes.LDY)) None) e (float_text rd ∷ []) mem [])
    (access (rx (lane_name (stem_of opcodes.VLEB) (stem_of opcodes.VLEH) (stem_of opcodes.VLEF) (stem_of opcodes.VLEG) size lane) None None) e (reg_text rd ∷ []) mem (decimal lane ∷ [])))

-- a store of lane 0 of a float register, or of a lane
abbrev pub store_lane_text : Emission → (size : ℕ) → Reg → MemArg → (lane : ℕ) → Text
store_lane_text e size rd mem lane =
    cond (is_float rd && nat_eq lane 0 && nat_eq size 32) (access (rx (Some (stem_of opcodes.STE)) (Some (stem_of opcodes.STEY)) None) e (float_text rd ∷ []) mem [])
    (cond (is_float rd && nat_eq lane 0 && nat_eq size 64) (access (rx (Some (stem_of opcodes.STD)) (Some (stem_of opcodes.STDY)) None) e (float_text rd ∷ []) mem [])
    (access (rx (lane_name (stem_of opcodes.VSTEB) (stem_of opcodes.VSTEH) (stem_of opcodes.VSTEF) (stem_of opcodes.VSTEG) size lane) None None) e (reg_text rd ∷ []) mem (decimal lane ∷ [])))

-- ---- instructions

-- operators, and bits and lanes that are chosen
abbrev pub vec_operator_text : VecInst → Option Text
vec_operator_text (V.VecRRR op rd rn rm) = Some (fixed_text (instruction_text (vec_binary_name op) (vec_binary_operands op rd rn rm)))
vec_operator_text (V.VecRR op rd rn) = Some (fixed_text (instruction_text (vec_unary_name op) (reg_text rd ∷ reg_text rn ∷ [])))
vec_operator_text (V.VecShiftRR op rd rn amount register) = Some (fixed_text (instruction_text (vec_shift_name op) (reg_text rd ∷ reg_text rn ∷ amount_text amount register ∷ [])))
vec_operator_text (V.VecSelect rd rn rm ra) = Some (fixed_text (instruction_text (codes "vsel") (reg_text rd ∷ reg_text rn ∷ reg_text rm ∷ reg_text ra ∷ [])))
vec_operator_text (V.VecPermute rd rn rm ra) = Some (fixed_text (instruction_text (codes "vperm") (reg_text rd ∷ reg_text rn ∷ reg_text rm ∷ reg_text ra ∷ [])))
vec_operator_text (V.VecBlend rd rn rm ra) = Some (fixed_text (instruction_text (codes "vblend") (reg_text rd ∷ reg_text rn ∷ reg_text rm ∷ reg_text ra ∷ [])))
vec_operator_text (V.VecEvaluate imm rd rn rm ra) = Some (fixed_text (instruction_text (codes "veval") (reg_text rd ∷ reg_text rn ∷ reg_text rm ∷ reg_text ra ∷ decimal imm ∷ [])))
vec_operator_text (V.VecPermuteDWImm rd rn rm idx1 idx2) = Some (doublewords_text rd rn rm idx1 idx2)
vec_operator_text (V.VecIntCmp op rd rn rm) = Some (fixed_text (instruction_text (vec_compare_name op) (reg_text rd ∷ reg_text rn ∷ reg_text rm ∷ [])))
vec_operator_text (V.VecIntCmpS op rd rn rm) = Some (fixed_text (instruction_text (vec_compare_set_name op) (reg_text rd ∷ reg_text rn ∷ reg_text rm ∷ [])))
vec_operator_text (V.VecIntEltCmp op rn rm) = Some (fixed_text (instruction_text (vec_element_compare_name op) (reg_text rn ∷ reg_text rm ∷ [])))
vec_operator_text (V.VecInt128SCmpHi tmp rn rm) = Some (fixed_text (wide_compare_text (codes "vecg") tmp rn rm))
vec_operator_text (V.VecInt128UCmpHi tmp rn rm) = Some (fixed_text (wide_compare_text (codes "veclg") tmp rn rm))
vec_operator_text _ = None

-- moves and immediates
abbrev pub vec_move_text : VecInst → Option Text
vec_move_text (V.VecMov rd rn) = Some (fixed_text (instruction_text (codes "vlr") (reg_text rd ∷ reg_text rn ∷ [])))
vec_move_text (V.FpuMove32 rd rn) = Some (fixed_text (float_move_text (codes "ler") rd rn))
vec_move_text (V.FpuMove64 rd rn) = Some (fixed_text (float_move_text (codes "ldr") rd rn))
vec_move_text (V.FpuCMov32 rd mask ri rm) = Some (fixed_text (float_cmov_text (codes "ler") rd mask rm))
vec_move_text (V.FpuCMov64 rd mask ri rm) = Some (fixed_text (float_cmov_text (codes "ldr") rd mask rm))
vec_move_text (V.VecCMov rd mask ri rm) = Some (fixed_text (unless_text mask (codes "10") ++ instruction_text (codes "vlr") (reused_text rd ri ∷ reg_text rm ∷ [])))
vec_move_text (V.MovToVec128 rd rn rm) = Some (fixed_text (instruction_text (codes "vlvgp") (reg_text rd ∷ reg_text rn ∷ reg_text rm ∷ [])))
vec_move_text (V.VecImmByteMask rd mask) = Some (fixed_text (instruction_text (codes "vgbm") (reg_text rd ∷ decimal mask ∷ [])))
vec_move_text (V.VecImmBitMask size rd start end) = Some (row (mask_name size start end) (reg_text rd ∷ decimal start ∷ decimal end ∷ []))
vec_move_text (V.VecImmReplicate size rd imm) = Some (row (lane_name (codes "vrepib") (codes "vrepih") (codes "vrepif") (codes "vrepig") size 0) (reg_text rd ∷ signed_decimal imm ∷ []))
vec_move_text _ = None

-- a register into a lane: the other lanes may change, so lane 0 of 64 bits may be a float register
abbrev pub insert_lane_text : (size : ℕ) → (rd rn : Reg) → (lane : ℕ) → (lane_reg : Reg) → Text
insert_lane_text size rd rn lane lane_reg =
    cond (is_float_lane size rd lane lane_reg) (fixed_text (instruction_text (codes "ldgr") (float_text rd ∷ reg_text rn ∷ [])))
    (row (lane_name (codes "vlvgb") (codes "vlvgh") (codes "vlvgf") (codes "vlvgg") size lane) (reg_text rd ∷ reg_text rn ∷ amount_text lane lane_reg ∷ []))

-- a lane into a general register
abbrev pub extract_lane_text : (size : ℕ) → (rd rn : Reg) → (lane : ℕ) → (lane_reg : Reg) → Text
extract_lane_text size rd rn lane lane_reg =
    cond (is_float_lane size rn lane lane_reg) (fixed_text (instruction_text (codes "lgdr") (reg_text rd ∷ float_text rn ∷ [])))
    (row (lane_name (codes "vlgvb") (codes "vlgvh") (codes "vlgvf") (codes "vlgvg") size lane) (reg_text rd ∷ reg_text rn ∷ amount_text lane lane_reg ∷ []))

-- lanes
abbrev pub vec_lane_text : VecInst → Option Text
vec_lane_text (V.VecInsertLane size rd ri rn lane lane_reg) =
    Some (row (lane_name (codes "vlvgb") (codes "vlvgh") (codes "vlvgf") (codes "vlvgg") size lane) (reused_text rd ri ∷ reg_text rn ∷ amount_text lane lane_reg ∷ []))
vec_lane_text (V.VecInsertLaneUndef size rd rn lane lane_reg) = Some (insert_lane_text size rd rn lane lane_reg)
vec_lane_text (V.VecExtractLane size rd rn lane lane_reg) = Some (extract_lane_text size rd rn lane lane_reg)
vec_lane_text (V.VecInsertLaneImm size rd ri imm lane) =
    Some (row (lane_name (codes "vleib") (codes "vleih") (codes "vleif") (codes "vleig") size lane) (reused_text rd ri ∷ signed_decimal imm ∷ decimal lane ∷ []))
vec_lane_text (V.VecInsertLaneImmUndef size rd imm lane) =
    Some (row (lane_name (codes "vleib") (codes "vleih") (codes "vleif") (codes "vleig") size lane) (reg_text rd ∷ signed_decimal imm ∷ decimal lane ∷ []))
vec_lane_text (V.VecReplicateLane size rd rn lane) =
    Some (row (lane_name (codes "vrepb") (codes "vreph") (codes "vrepf") (codes "vrepg") size lane) (reg_text rd ∷ reg_text rn ∷ decimal lane ∷ []))
vec_lane_text (V.VecEltRev count rd rn) = Some (reverse_text rd rn count)
vec_lane_text _ = None

-- loads and stores of whole registers
abbrev pub vec_whole_text : Emission → VecInst → Option Text
vec_whole_text e v = by_whole (λ w. Some (access (rx (Some (whole_name w.direction w.layout)) None None) e (reg_text w.rd ∷ []) w.mem [])) None (as_whole v)

-- loads and stores of lanes
abbrev pub vec_part_text : Emission → VecInst → Option Text
vec_part_text e (V.VecLoadReplicate size rd mem) =
    Some (access (rx (replicated_name (stem_of opcodes.VLREP) size) None None) e (reg_text rd ∷ []) mem [])
vec_part_text e (V.VecLoadReplicateRev size rd mem) = Some (access (rx (reversed_replicated_name (stem_of opcodes.VLBRREP) size) None None) e (reg_text rd ∷ []) mem [])
vec_part_text e (V.VecLoadLane size rd ri mem lane) =
    Some (access (rx (lane_name (stem_of opcodes.VLEB) (stem_of opcodes.VLEH) (stem_of opcodes.VLEF) (stem_of opcodes.VLEG) size lane) None None) e (reg_text rd ∷ []) mem (decimal lane ∷ []))
vec_part_text e (V.VecLoadLaneRev size rd ri mem lane) =
    Some (access (rx (reversed_name (stem_of opcodes.VLEBRH) (stem_of opcodes.VLEBRF) (stem_of opcodes.VLEBRG) size lane) None None) e (reg_text rd ∷ []) mem (decimal lane ∷ []))
vec_part_text e (V.VecLoadLaneUndef size rd mem lane) = Some (load_lane_text e size rd mem lane)
vec_part_text e (V.VecLoadLaneRevUndef size rd mem lane) =
    Some (access (rx (reversed_name (stem_of opcodes.VLEBRH) (stem_of opcodes.VLEBRF) (stem_of opcodes.VLEBRG) size lane) None None) e (reg_text rd ∷ []) mem (decimal lane ∷ []))
vec_part_text e (V.VecStoreLane size rd mem lane) = Some (store_lane_text e size rd mem lane)
vec_part_text e (V.VecStoreLaneRev size rd mem lane) =
    Some (access (rx (reversed_name (stem_of opcodes.VSTEBRH) (stem_of opcodes.VSTEBRF) (stem_of opcodes.VSTEBRG) size lane) None None) e (reg_text rd ∷ []) mem (decimal lane ∷ []))
vec_part_text e _ = None

-- the text of an instruction on vector or float registers
abbrev pub vector_text : Emission → VecInst → Text
vector_text e v = text_or (vec_operator_text v) (text_or (vec_move_text v) (text_or (vec_lane_text v) (text_or (vec_whole_text e v) (text_or (vec_part_text e v) (row None [])))))
