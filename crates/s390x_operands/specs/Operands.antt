-- The operands of each instruction: outputs first, inputs in the order of the fields, memory last (cranelift-codegen, `mod.rs`, `get_operands`).
use Rattle.std.specs.Prelude.{Bool, true, false, ◌||◌, List, [], ◌∷◌, ◌++◌, map, Option, Some}
use Rattle.s390x_inst.specs.declared.inst.Inst.{Inst, Row_of-Inst, end_of-Inst, more_of-Inst}
use Rattle.s390x_inst.specs.declared.inst.Inst.TheVariants as I
use Rattle.s390x_inst.specs.declared.vec_inst.VecInst.{VecInst}
use Rattle.s390x_inst.specs.declared.vec_inst.VecInst.TheVariants as V
use Rattle.s390x_inst.specs.Loads.{as_load, by_load}
use Rattle.s390x_inst.specs.Stores.{as_store, by_store}
use Rattle.s390x_inst.specs.declared.whole.WholeAccess.{WholeAccess}
use Rattle.s390x_inst.specs.Wholes.{as_whole, by_whole, by_direction}
use Rattle.s390x_operands.specs.declared.constraint.OperandError.{OperandError}
use Rattle.s390x_operands.specs.declared.constraint.Reported.{Reported}
use Rattle.s390x_operands.specs.declared.constraint.Reported.TheVariants.{Fixed}
use Rattle.s390x_operands.specs.Requests.{items_of, cause_of, reported_use, reported_def, reported_reuse, fixed_use, fixed_def, scratch_request, memory_requests, range_requests}
use Rattle.s390x_operands.specs.Calls.{call_requests, return_call_requests, reported_argument, reported_result}

-- what is reported of moves, immediates and elements of vector registers
abbrev pub vector_move_requests : VecInst → List (Option Reported)
vector_move_requests (V.VecMov rd rn) = reported_def rd ∷ reported_use rn ∷ []
vector_move_requests (V.FpuMove32 rd rn) = reported_def rd ∷ reported_use rn ∷ []
vector_move_requests (V.FpuMove64 rd rn) = reported_def rd ∷ reported_use rn ∷ []
vector_move_requests (V.FpuCMov32 rd cond ri rm) = reported_reuse rd ∷ reported_use ri ∷ reported_use rm ∷ []
vector_move_requests (V.FpuCMov64 rd cond ri rm) = reported_reuse rd ∷ reported_use ri ∷ reported_use rm ∷ []
vector_move_requests (V.VecCMov rd cond ri rm) = reported_reuse rd ∷ reported_use ri ∷ reported_use rm ∷ []
vector_move_requests (V.MovToVec128 rd rn rm) = reported_def rd ∷ reported_use rn ∷ reported_use rm ∷ []
vector_move_requests (V.VecImmByteMask rd mask) = reported_def rd ∷ []
vector_move_requests (V.VecImmBitMask size rd start_bit end_bit) = reported_def rd ∷ []
vector_move_requests (V.VecImmReplicate size rd imm) = reported_def rd ∷ []
vector_move_requests (V.VecInsertLane size rd ri rn lane_imm lane_reg) = reported_reuse rd ∷ reported_use ri ∷ reported_use rn ∷ reported_use lane_reg ∷ []
vector_move_requests (V.VecInsertLaneUndef size rd rn lane_imm lane_reg) = reported_def rd ∷ reported_use rn ∷ reported_use lane_reg ∷ []
vector_move_requests (V.VecExtractLane size rd rn lane_imm lane_reg) = reported_def rd ∷ reported_use rn ∷ reported_use lane_reg ∷ []
vector_move_requests (V.VecInsertLaneImm size rd ri imm lane_imm) = reported_reuse rd ∷ reported_use ri ∷ []
vector_move_requests (V.VecInsertLaneImmUndef size rd imm lane_imm) = reported_def rd ∷ []
vector_move_requests (V.VecReplicateLane size rd rn lane_imm) = reported_def rd ∷ reported_use rn ∷ []
vector_move_requests (V.VecEltRev lane_count rd rn) = reported_def rd ∷ reported_use rn ∷ []
vector_move_requests _ = []

-- what is reported of vector instructions without memory
abbrev pub register_vector_requests : VecInst → List (Option Reported)
register_vector_requests (V.VecRRR op rd rn rm) = reported_def rd ∷ reported_use rn ∷ reported_use rm ∷ []
register_vector_requests (V.VecRR op rd rn) = reported_def rd ∷ reported_use rn ∷ []
register_vector_requests (V.VecShiftRR shift_op rd rn shift_imm shift_reg) = reported_def rd ∷ reported_use rn ∷ reported_use shift_reg ∷ []
register_vector_requests (V.VecSelect rd rn rm ra) = reported_def rd ∷ reported_use rn ∷ reported_use rm ∷ reported_use ra ∷ []
register_vector_requests (V.VecPermute rd rn rm ra) = reported_def rd ∷ reported_use rn ∷ reported_use rm ∷ reported_use ra ∷ []
register_vector_requests (V.VecBlend rd rn rm ra) = reported_def rd ∷ reported_use rn ∷ reported_use rm ∷ reported_use ra ∷ []
register_vector_requests (V.VecEvaluate imm rd rn rm ra) = reported_def rd ∷ reported_use rn ∷ reported_use rm ∷ reported_use ra ∷ []
register_vector_requests (V.VecPermuteDWImm rd rn rm idx1 idx2) = reported_def rd ∷ reported_use rn ∷ reported_use rm ∷ []
register_vector_requests (V.VecIntCmp op rd rn rm) = reported_def rd ∷ reported_use rn ∷ reported_use rm ∷ []
register_vector_requests (V.VecIntCmpS op rd rn rm) = reported_def rd ∷ reported_use rn ∷ reported_use rm ∷ []
register_vector_requests (V.VecIntEltCmp op rn rm) = reported_use rn ∷ reported_use rm ∷ []
register_vector_requests (V.VecInt128SCmpHi tmp rn rm) = reported_def tmp ∷ reported_use rn ∷ reported_use rm ∷ []
register_vector_requests (V.VecInt128UCmpHi tmp rn rm) = reported_def tmp ∷ reported_use rn ∷ reported_use rm ∷ []
register_vector_requests v = vector_move_requests v

-- what is reported of loads and stores of elements, and of instructions on registers
abbrev pub part_requests : VecInst → List (Option Reported)
part_requests (V.VecLoadReplicate size rd mem) = reported_def rd ∷ memory_requests mem
part_requests (V.VecLoadReplicateRev size rd mem) = reported_def rd ∷ memory_requests mem
part_requests (V.VecLoadLane size rd ri mem lane_imm) = reported_reuse rd ∷ reported_use ri ∷ memory_requests mem
part_requests (V.VecLoadLaneRev size rd ri mem lane_imm) = reported_reuse rd ∷ reported_use ri ∷ memory_requests mem
part_requests (V.VecLoadLaneUndef size rd mem lane_imm) = reported_def rd ∷ memory_requests mem
part_requests (V.VecLoadLaneRevUndef size rd mem lane_imm) = reported_def rd ∷ memory_requests mem
part_requests (V.VecStoreLane size rd mem lane_imm) = reported_use rd ∷ memory_requests mem
part_requests (V.VecStoreLaneRev size rd mem lane_imm) = reported_use rd ∷ memory_requests mem
part_requests v = register_vector_requests v

-- what is reported of a load or a store of a whole register
abbrev pub whole_requests : WholeAccess → List (Option Reported)
whole_requests w = by_direction w.direction (reported_def w.rd) (reported_use w.rd) ∷ memory_requests w.mem

-- what is reported of vector instructions
abbrev pub vector_requests : VecInst → List (Option Reported)
vector_requests v = by_whole whole_requests (part_requests v) (as_whole v)

-- what is reported of branches, calls and the rest
abbrev pub control_requests : Inst → List (Option Reported)
control_requests (I.IndirectBr rn targets) = reported_use rn ∷ []
control_requests (I.JTSequence ridx default default_cond targets) = reported_use ridx ∷ scratch_request ∷ []
control_requests (I.Call link info) = call_requests link info
control_requests (I.ReturnCall info) = return_call_requests info
control_requests (I.LoadSymbolReloc rd symbol_reloc) = reported_def rd ∷ scratch_request ∷ []
control_requests (I.LabelAddress dst label) = reported_def dst ∷ []
control_requests (I.Args args) = map reported_argument args.items
control_requests (I.Rets rets) = map reported_result rets.items
control_requests (I.DummyUse reg) = reported_use reg ∷ []
control_requests (I.Vector v) = vector_requests v
control_requests _ = []

-- what is reported of multiple loads and stores, immediates that are stored, and addresses
abbrev pub rest_requests : Inst → List (Option Reported)
rest_requests (I.StoreImm8 imm mem) = memory_requests mem
rest_requests (I.StoreImm16 imm mem) = memory_requests mem
rest_requests (I.StoreImm32SExt16 imm mem) = memory_requests mem
rest_requests (I.StoreImm64SExt16 imm mem) = memory_requests mem
rest_requests (I.LoadMultiple64 rt rt2 mem) = memory_requests mem ++ range_requests rt rt2
rest_requests (I.StoreMultiple64 rt rt2 mem) = memory_requests mem ++ range_requests rt rt2
rest_requests (I.LoadAddr rd mem) = reported_def rd ∷ memory_requests mem
rest_requests (I.LoadIndexedAddr rd base index offset size) = reported_def rd ∷ reported_use base ∷ reported_use index ∷ []
rest_requests (I.LoadLogicalIndexedAddr rd base index offset size) = reported_def rd ∷ reported_use base ∷ reported_use index ∷ []
rest_requests (I.AtomicRmw alu_op rd rn mem) = reported_def rd ∷ reported_use rn ∷ memory_requests mem
rest_requests (I.AtomicCas32 rd ri rn mem) = reported_reuse rd ∷ reported_use ri ∷ reported_use rn ∷ memory_requests mem
rest_requests (I.AtomicCas64 rd ri rn mem) = reported_reuse rd ∷ reported_use ri ∷ reported_use rn ∷ memory_requests mem
rest_requests i = control_requests i

-- what is reported of stores, and of these
abbrev pub store_requests : Inst → List (Option Reported)
store_requests i = by_store (λ s. reported_use s.rd ∷ memory_requests s.mem) (rest_requests i) (as_store i)

-- what is reported of loads, stores and addresses
abbrev pub storage_requests : Inst → List (Option Reported)
storage_requests i = by_load (λ l. reported_def l.rd ∷ memory_requests l.mem) (store_requests i) (as_load i)

-- what is reported of moves between registers, and of immediates
abbrev pub move_requests : Inst → List (Option Reported)
move_requests (I.Mov64 rd rm) = reported_def rd ∷ reported_use rm ∷ []
move_requests (I.MovPReg rd rm) = reported_def rd ∷ Some (Fixed rm) ∷ []
move_requests (I.Mov32 rd rm) = reported_def rd ∷ reported_use rm ∷ []
move_requests (I.Mov32Imm rd imm) = reported_def rd ∷ []
move_requests (I.Mov32SImm16 rd imm) = reported_def rd ∷ []
move_requests (I.Mov64SImm16 rd imm) = reported_def rd ∷ []
move_requests (I.Mov64SImm32 rd imm) = reported_def rd ∷ []
move_requests (I.Mov64UImm16Shifted rd imm) = reported_def rd ∷ []
move_requests (I.Mov64UImm32Shifted rd imm) = reported_def rd ∷ []
move_requests (I.Insert64UImm16Shifted rd ri imm) = reported_reuse rd ∷ reported_use ri ∷ []
move_requests (I.Insert64UImm32Shifted rd ri imm) = reported_reuse rd ∷ reported_use ri ∷ []
move_requests (I.CMov32 rd cond ri rm) = reported_reuse rd ∷ reported_use ri ∷ reported_use rm ∷ []
move_requests (I.CMov64 rd cond ri rm) = reported_reuse rd ∷ reported_use ri ∷ reported_use rm ∷ []
move_requests (I.CMov32SImm16 rd cond ri imm) = reported_reuse rd ∷ reported_use ri ∷ []
move_requests (I.CMov64SImm16 rd cond ri imm) = reported_reuse rd ∷ reported_use ri ∷ []
move_requests (I.Extend rd rn signed from_bits to_bits) = reported_def rd ∷ reported_use rn ∷ []
move_requests (I.LoadAR rd ar) = reported_def rd ∷ []
move_requests (I.InsertAR rd ri ar) = reported_reuse rd ∷ reported_use ri ∷ []
move_requests i = storage_requests i

-- what is reported of operators, products, divisions, shifts, rotations and comparisons
abbrev pub leaf_requests : Inst → List (Option Reported)
leaf_requests (I.AluRRR alu_op rd rn rm) = reported_def rd ∷ reported_use rn ∷ reported_use rm ∷ []
leaf_requests (I.AluRRSImm16 alu_op rd rn imm) = reported_def rd ∷ reported_use rn ∷ []
leaf_requests (I.AluRR alu_op rd ri rm) = reported_reuse rd ∷ reported_use ri ∷ reported_use rm ∷ []
leaf_requests (I.AluRX alu_op rd ri mem) = reported_reuse rd ∷ reported_use ri ∷ memory_requests mem
leaf_requests (I.AluRSImm16 alu_op rd ri imm) = reported_reuse rd ∷ reported_use ri ∷ []
leaf_requests (I.AluRSImm32 alu_op rd ri imm) = reported_reuse rd ∷ reported_use ri ∷ []
leaf_requests (I.AluRUImm32 alu_op rd ri imm) = reported_reuse rd ∷ reported_use ri ∷ []
leaf_requests (I.AluRUImm16Shifted alu_op rd ri imm) = reported_reuse rd ∷ reported_use ri ∷ []
leaf_requests (I.AluRUImm32Shifted alu_op rd ri imm) = reported_reuse rd ∷ reported_use ri ∷ []
leaf_requests (I.SMulWide rd rn rm) = reported_use rn ∷ reported_use rm ∷ fixed_def rd.hi 2 ∷ fixed_def rd.lo 3 ∷ []
leaf_requests (I.UMulWide rd ri rn) = reported_use rn ∷ fixed_def rd.hi 2 ∷ fixed_def rd.lo 3 ∷ fixed_use ri 3 ∷ []
leaf_requests (I.SDivMod32 rd ri rn) = reported_use rn ∷ fixed_def rd.hi 2 ∷ fixed_def rd.lo 3 ∷ fixed_use ri 3 ∷ []
leaf_requests (I.SDivMod64 rd ri rn) = reported_use rn ∷ fixed_def rd.hi 2 ∷ fixed_def rd.lo 3 ∷ fixed_use ri 3 ∷ []
leaf_requests (I.UDivMod32 rd ri rn) = reported_use rn ∷ fixed_def rd.hi 2 ∷ fixed_def rd.lo 3 ∷ fixed_use ri.hi 2 ∷ fixed_use ri.lo 3 ∷ []
leaf_requests (I.UDivMod64 rd ri rn) = reported_use rn ∷ fixed_def rd.hi 2 ∷ fixed_def rd.lo 3 ∷ fixed_use ri.hi 2 ∷ fixed_use ri.lo 3 ∷ []
leaf_requests (I.Flogr rd rn) = reported_use rn ∷ fixed_def rd.hi 2 ∷ fixed_def rd.lo 3 ∷ []
leaf_requests (I.ShiftRR shift_op rd rn shift_imm shift_reg) = reported_def rd ∷ reported_use rn ∷ reported_use shift_reg ∷ []
leaf_requests (I.RxSBG op rd ri rn start_bit end_bit rotate_amt) = reported_reuse rd ∷ reported_use ri ∷ reported_use rn ∷ []
leaf_requests (I.RxSBGTest op rd rn start_bit end_bit rotate_amt) = reported_use rd ∷ reported_use rn ∷ []
leaf_requests (I.UnaryRR op rd rn) = reported_def rd ∷ reported_use rn ∷ []
leaf_requests (I.CmpRR op rn rm) = reported_use rn ∷ reported_use rm ∷ []
leaf_requests (I.CmpRX op rn mem) = reported_use rn ∷ memory_requests mem
leaf_requests (I.CmpRSImm16 op rn imm) = reported_use rn ∷ []
leaf_requests (I.CmpRSImm32 op rn imm) = reported_use rn ∷ []
leaf_requests (I.CmpRUImm32 op rn imm) = reported_use rn ∷ []
leaf_requests (I.CmpTrapRR op rn rm cond trap_code) = reported_use rn ∷ reported_use rm ∷ []
leaf_requests (I.CmpTrapRSImm16 op rn imm cond trap_code) = reported_use rn ∷ []
leaf_requests (I.CmpTrapRUImm16 op rn imm cond trap_code) = reported_use rn ∷ []
leaf_requests i = move_requests i

-- an instruction reports its operands in order, a `Loop` those of its members in order
abbrev mutual
  -- of an instruction. A `Loop` has its members twice: `all` is read, and `body` is ignored
  pub requests : Inst → List (Option Reported)
  requests (I.Loop' mask body all) = row_requests all
  requests i = leaf_requests i

  -- of the members of a loop
  pub row_requests : {m : _} → Row_of-Inst m → List (Option Reported)
  row_requests end_of-Inst = []
  row_requests (more_of-Inst i rest) = requests i ++ row_requests rest

-- what is reported of members in a list
abbrev pub members_requests : List Inst → List (Option Reported)
members_requests [] = []
members_requests (i ∷ is) = requests i ++ members_requests is

-- the list of an instruction
abbrev pub operands : Inst → List Reported
operands i = items_of (requests i)

-- a reuse inside a `Loop` is denied, whoever is told
abbrev pub is_loop : Inst → Bool
is_loop (I.Loop' mask body all) = true
is_loop _ = false

-- the first cause by which the operands of an instruction aren't reported, want of memory aside
abbrev pub operands_cause : (denies : Bool) → Inst → Option OperandError
operands_cause denies i = cause_of (is_loop i || denies) (requests i)
