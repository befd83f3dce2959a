-- Instructions with a memory operand: their machine rows by format, the operand, and the registers that they name (cranelift-codegen, `emit.rs`).
use Rattle.std.specs.Prelude.{ℕ, get_or, Bool, true, false, cond, not, ◌&&◌, ◌||◌, nat_le, nat_lt, nat_eq, is_some, Option, Some, None, option_map}
use Rattle.s390x_base.specs.Regs.{number_of}
use Rattle.s390x_base.specs.declared.regs.Reg.{Reg}
use Rattle.s390x_base.specs.declared.trap.TrapKind.{TrapKind}
use Rattle.s390x_inst.specs.Memory.{flags_of}
use Rattle.s390x_inst.specs.declared.args.MemArg.{MemArg}
use Rattle.s390x_inst.specs.declared.args.MemArg.TheVariants.{BXD12, BXD20}
use Rattle.s390x_inst.specs.declared.inst.Inst.{Inst}
use Rattle.s390x_inst.specs.declared.inst.Inst.TheVariants as I
use Rattle.s390x_inst.specs.declared.load.Load.{Load}
use Rattle.s390x_inst.specs.declared.load.LoadOp.{LoadOp}
use Rattle.s390x_inst.specs.Loads.{as_load, by_load, load_place}
use Rattle.s390x_inst.specs.declared.store.Store.{Store}
use Rattle.s390x_inst.specs.declared.store.StoreOp.{StoreOp}
use Rattle.s390x_inst.specs.Stores.{as_store, by_store, store_place}
use Rattle.s390x_inst.specs.declared.whole.WholeAccess.{WholeAccess}
use Rattle.s390x_inst.specs.declared.whole.WholeLayout.{WholeLayout}
use Rattle.s390x_inst.specs.Wholes.{as_whole, by_whole, by_direction, layout_place}
use Rattle.s390x_inst.specs.declared.vec_inst.VecInst.{VecInst}
use Rattle.s390x_inst.specs.declared.vec_inst.VecInst.TheVariants as V
use Rattle.s390x_rows.specs.declared.opcodes.TheConstants as opcodes
use Rattle.s390x_typed_steps.specs.General.{is_general, reuses, low_byte, low_halfword, low_displacement, low_12}
use Rattle.s390x_typed_steps.specs.MachineInstruction.{MachineInstruction, rx, rxy, rs, rsy, si, siy, sil, vrx}
use Rattle.s390x_typed_steps.specs.Operands.{is_numbered, is_relative}
use Rattle.s390x_typed_steps.specs.Storage.{alu_rx, alu_rxy, cmp_rx, cmp_rxy, cmp_ril, atomic_rsy}
use Rattle.s390x_typed_steps.specs.VectorInstruction.{is_vector, reuses_vector, element_code, is_lane}
use Rattle.s390x_typed_steps.specs.declared.access_rows.RegisterRows.{RegisterRows}
use Rattle.s390x_typed_steps.specs.declared.access_rows.WholeRows.{WholeRows}
use Rattle.s390x_typed_steps.specs.declared.access_rows.TheConstants.{LOAD_ROWS, STORE_ROWS, WHOLE_ROWS}
use Rattle.s390x_typed_steps.specs.declared.mem_inst_type.MemInstType.{MemInstType}

-- the machine rows that an instruction has for its operand, by format, and what else stands in them
pub data StorageForm : Type 0 where
  -- RX, RXY and RIL-B: a register
  RxForm : (register : ℕ) (rx_opcode rxy_opcode ril_opcode : Option ℕ) → StorageForm
  -- RS and RSY: two registers
  RsForm : (first second : ℕ) (rs_opcode rsy_opcode : Option ℕ) → StorageForm
  -- SI and SIY: an immediate of 8 bits
  SiForm : (imm si_opcode siy_opcode : ℕ) → StorageForm
  -- SIL: the bits of an immediate of 16 bits
  SilForm : (bits sil_opcode : ℕ) → StorageForm
  -- VRX: a vector register, and a code of a size or an element's number
  VrxForm : (register vrx_opcode mask : ℕ) → StorageForm
  -- RX and RXY: a float register
  FloatForm : (register rx_opcode rxy_opcode : ℕ) → StorageForm

-- its rows and its operand; whether it accesses memory, whether its own registers may stand there, and whether it reads %r1, which helpers write
pub record MemoryInstruction : Type 0 where
  pub form : StorageForm
  pub operand : MemArg
  pub accesses : Bool
  pub operands_valid : Bool
  pub reads_scratch : Bool

-- which forms of an operand the rows take. A relative operand of an access has to be aligned
abbrev pub type_of : StorageForm → (accesses : Bool) → MemInstType
type_of (RxForm register rx_opcode rxy_opcode ril_opcode) accesses =
    record { have_d12 = is_some rx_opcode; have_d20 = is_some rxy_opcode; have_pcrel = is_some ril_opcode; have_unaligned_pcrel = is_some ril_opcode && not accesses; have_index = true }
type_of (RsForm first second rs_opcode rsy_opcode) accesses =
    record { have_d12 = is_some rs_opcode; have_d20 = is_some rsy_opcode; have_pcrel = false; have_unaligned_pcrel = false; have_index = false }
type_of (SiForm imm si_opcode siy_opcode) accesses =
    record { have_d12 = true; have_d20 = true; have_pcrel = false; have_unaligned_pcrel = false; have_index = false }
type_of (SilForm bits sil_opcode) accesses =
    record { have_d12 = true; have_d20 = false; have_pcrel = false; have_unaligned_pcrel = false; have_index = false }
type_of (VrxForm register vrx_opcode mask) accesses =
    record { have_d12 = true; have_d20 = false; have_pcrel = false; have_unaligned_pcrel = false; have_index = true }
type_of (FloatForm register rx_opcode rxy_opcode) accesses =
    record { have_d12 = true; have_d20 = true; have_pcrel = false; have_unaligned_pcrel = false; have_index = true }

-- the machine instruction of an opcode, where there is one
abbrev pub of_opcode : (ℕ → MachineInstruction) → Option ℕ → Option MachineInstruction
of_opcode row None = None
of_opcode row (Some opcode) = Some (row opcode)

-- the machine instruction at an operand that stands in it as it is: a base, a displacement, and in RX, RXY and VRX an index
abbrev pub storage_row : StorageForm → MemArg → Option MachineInstruction
storage_row (RxForm r rx_opcode rxy_opcode ril_opcode) (BXD12 base index disp flags) =
    of_opcode (λ opcode. rx opcode r (number_of base) (number_of index) (low_12 disp)) rx_opcode
storage_row (RxForm r rx_opcode rxy_opcode ril_opcode) (BXD20 base index disp flags) =
    of_opcode (λ opcode. rxy opcode r (number_of base) (number_of index) (low_displacement disp)) rxy_opcode
storage_row (RsForm r s rs_opcode rsy_opcode) (BXD12 base index disp flags) =
    of_opcode (λ opcode. rs opcode r s (number_of base) (low_12 disp)) rs_opcode
storage_row (RsForm r s rs_opcode rsy_opcode) (BXD20 base index disp flags) =
    of_opcode (λ opcode. rsy opcode r s (number_of base) (low_displacement disp)) rsy_opcode
storage_row (SiForm imm si_opcode siy_opcode) (BXD12 base index disp flags) = Some (si si_opcode (number_of base) (low_12 disp) imm)
storage_row (SiForm imm si_opcode siy_opcode) (BXD20 base index disp flags) = Some (siy siy_opcode (number_of base) (low_displacement disp) imm)
storage_row (SilForm bits sil_opcode) (BXD12 base index disp flags) = Some (sil sil_opcode (number_of base) (low_12 disp) bits)
storage_row (VrxForm r vrx_opcode mask) (BXD12 base index disp flags) = Some (vrx vrx_opcode r (number_of base) (number_of index) mask (low_12 disp))
storage_row (FloatForm r rx_opcode rxy_opcode) (BXD12 base index disp flags) = Some (rx rx_opcode r (number_of base) (number_of index) (low_12 disp))
storage_row (FloatForm r rx_opcode rxy_opcode) (BXD20 base index disp flags) = Some (rxy rxy_opcode r (number_of base) (number_of index) (low_displacement disp))
storage_row form operand = None

-- ---- the instructions

-- a load into a register, which is written alone
abbrev pub load : Reg → (rx_opcode rxy_opcode ril_opcode : Option ℕ) → MemArg → Option MemoryInstruction
load rd rx_opcode rxy_opcode ril_opcode mem =
    Some (record { form = RxForm (number_of rd) rx_opcode rxy_opcode ril_opcode; operand = mem; accesses = true; operands_valid = is_general rd; reads_scratch = false })

-- a store of a register
abbrev pub store : Reg → (rx_opcode rxy_opcode ril_opcode : Option ℕ) → MemArg → Option MemoryInstruction
store rd rx_opcode rxy_opcode ril_opcode mem =
    Some (record { form = RxForm (number_of rd) rx_opcode rxy_opcode ril_opcode; operand = mem; accesses = true; operands_valid = is_general rd; reads_scratch = is_numbered 1 rd })

-- a store of an immediate
abbrev pub store_immediate : StorageForm → MemArg → Option MemoryInstruction
store_immediate form mem = Some (record { form = form; operand = mem; accesses = true; operands_valid = true; reads_scratch = false })

-- the rows of LOAD ADDRESS, which accesses nothing
abbrev pub address_form : Reg → StorageForm
address_form rd = RxForm (number_of rd) (Some opcodes.LA) (Some opcodes.LAY) (Some opcodes.LARL)

-- registers from the first to the last, in order
abbrev pub is_range : (first last : Reg) → Bool
is_range first last = is_general first && is_general last && nat_le (number_of first) (number_of last)

-- %r1 is one of them
abbrev pub holds_scratch : (first last : Reg) → Bool
holds_scratch first last = nat_le (number_of first) 1 && nat_le 1 (number_of last)

-- registers that are loaded or stored one after another
abbrev pub multiple : (first last : Reg) → (rsy_opcode : ℕ) → (reads_scratch : Bool) → MemArg → Option MemoryInstruction
multiple first last rsy_opcode reads_scratch mem =
    Some (record { form = RsForm (number_of first) (number_of last) None (Some rsy_opcode); operand = mem; accesses = true; operands_valid = is_range first last; reads_scratch = reads_scratch })

-- an operator on a register and an operand in memory; none where there is no row
abbrev pub operate : Bool → Option ℕ → Option ℕ → (rd ri : Reg) → MemArg → Option MemoryInstruction
operate false rx_opcode rxy_opcode rd ri mem = None
operate true rx_opcode rxy_opcode rd ri mem =
    Some (record { form = RxForm (number_of rd) rx_opcode rxy_opcode None; operand = mem; accesses = true; operands_valid = reuses rd ri; reads_scratch = is_numbered 1 ri })

-- a comparison of a register with an operand in memory
abbrev pub compare : Reg → Option ℕ → Option ℕ → ℕ → MemArg → Option MemoryInstruction
compare rn rx_opcode rxy_opcode ril_opcode mem =
    Some (record { form = RxForm (number_of rn) rx_opcode rxy_opcode (Some ril_opcode); operand = mem; accesses = true; operands_valid = is_general rn; reads_scratch = is_numbered 1 rn })

-- an operand in memory that is changed in one access; none where there is no row
abbrev pub load_and_operate : Option ℕ → (rd rn : Reg) → MemArg → Option MemoryInstruction
load_and_operate None rd rn mem = None
load_and_operate (Some opcode) rd rn mem =
    Some (record { form = RsForm (number_of rd) (number_of rn) None (Some opcode); operand = mem; accesses = true; operands_valid = is_general rd && is_general rn; reads_scratch = is_numbered 1 rn })

-- a comparison, and where it is equal a store, in one access
abbrev pub compare_and_swap : Option ℕ → ℕ → (rd ri rn : Reg) → MemArg → Option MemoryInstruction
compare_and_swap rs_opcode rsy_opcode rd ri rn mem =
    Some (record { form = RsForm (number_of rd) (number_of rn) rs_opcode (Some rsy_opcode); operand = mem; accesses = true; operands_valid = reuses rd ri && is_general rn; reads_scratch = is_numbered 1 ri || is_numbered 1 rn })

-- ---- vector registers, which are never %r1

-- an access by a row
abbrev pub access_vector : (valid : Bool) → StorageForm → MemArg → Option MemoryInstruction
access_vector valid form mem = Some (record { form = form; operand = mem; accesses = true; operands_valid = valid; reads_scratch = false })

-- a register and its elements, by the code of their size; none where there are no such elements
abbrev pub access_elements : (opcode : ℕ) → Reg → (code : Option ℕ) → MemArg → Option MemoryInstruction
access_elements opcode rd None mem = None
access_elements opcode rd (Some code) mem = access_vector (is_vector rd) (VrxForm (number_of rd) opcode code) mem

-- the code of elements of several bytes
abbrev pub reversed_code : (size : ℕ) → Option ℕ
reversed_code size = cond (nat_eq size 8) None (element_code size)

-- one element, by the opcode for the code of its size; none where there is no such element
abbrev pub access_lane : (valid : Bool) → (opcode : ℕ → ℕ) → (register : ℕ) → (code : Option ℕ) → (size lane : ℕ) → MemArg → Option MemoryInstruction
access_lane valid opcode register None size lane mem = None
access_lane valid opcode register (Some code) size lane mem = cond (is_lane size lane) (access_vector valid (VrxForm register (opcode code) lane) mem) None

-- the opcodes of one element's rows, by the code of its size
abbrev pub load_lane_opcode : (code : ℕ) → ℕ
load_lane_opcode code = cond (nat_eq code 0) opcodes.VLEB (cond (nat_eq code 1) opcodes.VLEH (cond (nat_eq code 2) opcodes.VLEF opcodes.VLEG))

abbrev pub store_lane_opcode : (code : ℕ) → ℕ
store_lane_opcode code = cond (nat_eq code 0) opcodes.VSTEB (cond (nat_eq code 1) opcodes.VSTEH (cond (nat_eq code 2) opcodes.VSTEF opcodes.VSTEG))

-- those with its bytes reversed
abbrev pub load_reversed_opcode : (code : ℕ) → ℕ
load_reversed_opcode code = cond (nat_eq code 1) opcodes.VLEBRH (cond (nat_eq code 2) opcodes.VLEBRF opcodes.VLEBRG)

abbrev pub store_reversed_opcode : (code : ℕ) → ℕ
store_reversed_opcode code = cond (nat_eq code 1) opcodes.VSTEBRH (cond (nat_eq code 2) opcodes.VSTEBRF opcodes.VSTEBRG)

-- the leftmost word or doubleword of a register that is a float register too
abbrev pub is_left_lane : (size lane register : ℕ) → Bool
is_left_lane size lane register = (nat_eq size 32 || nat_eq size 64) && nat_eq lane 0 && nat_lt register 16

-- its rows
abbrev pub load_left : (size register : ℕ) → StorageForm
load_left size register = cond (nat_eq size 32) (FloatForm register opcodes.LE opcodes.LEY) (FloatForm register opcodes.LD opcodes.LDY)

abbrev pub store_left : (size register : ℕ) → StorageForm
store_left size register = cond (nat_eq size 32) (FloatForm register opcodes.STE opcodes.STEY) (FloatForm register opcodes.STD opcodes.STDY)

-- one element, by the rows of a float register where it is the leftmost one of such a register
abbrev pub left_or_lane : (left : (size register : ℕ) → StorageForm) → (opcode : ℕ → ℕ) → (size lane : ℕ) → Reg → MemArg → Option MemoryInstruction
left_or_lane left opcode size lane rd mem =
    cond (is_left_lane size lane (number_of rd)) (access_vector (is_vector rd) (left size (number_of rd)) mem)
    (access_lane (is_vector rd) opcode (number_of rd) (element_code size) size lane mem)

-- loads and stores of one element. Where the other ones may become any, the leftmost one is also loaded as a float register
abbrev pub lane_memory : VecInst → Option MemoryInstruction
lane_memory (V.VecLoadLane size rd ri mem lane) = access_lane (reuses_vector rd ri) load_lane_opcode (number_of rd) (element_code size) size lane mem
lane_memory (V.VecLoadLaneRev size rd ri mem lane) = access_lane (reuses_vector rd ri) load_reversed_opcode (number_of rd) (reversed_code size) size lane mem
lane_memory (V.VecLoadLaneUndef size rd mem lane) = left_or_lane load_left load_lane_opcode size lane rd mem
lane_memory (V.VecLoadLaneRevUndef size rd mem lane) = access_lane (is_vector rd) load_reversed_opcode (number_of rd) (reversed_code size) size lane mem
lane_memory (V.VecStoreLane size rd mem lane) = left_or_lane store_left store_lane_opcode size lane rd mem
lane_memory (V.VecStoreLaneRev size rd mem lane) = access_lane (is_vector rd) store_reversed_opcode (number_of rd) (reversed_code size) size lane mem
lane_memory _ = None

-- loads and stores of elements
abbrev pub part_memory : VecInst → Option MemoryInstruction
part_memory (V.VecLoadReplicate size rd mem) = access_elements opcodes.VLREP rd (element_code size) mem
part_memory (V.VecLoadReplicateRev size rd mem) = access_elements opcodes.VLBRREP rd (reversed_code size) mem
part_memory v = lane_memory v

-- the rows of a layout
abbrev pub layout_rows : WholeLayout → WholeRows
layout_rows layout = get_or WHOLE_ROWS (layout_place layout) (record { load_opcode = 0; store_opcode = 0; mask = 0 })

abbrev pub whole_memory : WholeAccess → Option MemoryInstruction
whole_memory w = access_elements (by_direction w.direction (layout_rows w.layout).load_opcode (layout_rows w.layout).store_opcode) w.rd (Some (layout_rows w.layout).mask) w.mem

-- the loads and stores of vector registers
abbrev pub vector_memory : VecInst → Option MemoryInstruction
vector_memory v = by_whole whole_memory (part_memory v) (as_whole v)

-- the rows of a load
abbrev pub load_rows : LoadOp → RegisterRows
load_rows op = get_or LOAD_ROWS (load_place op) (record { rx = None; rxy = None; ril = None })

abbrev pub load_memory : Load → Option MemoryInstruction
load_memory l = load l.rd (load_rows l.op).rx (load_rows l.op).rxy (load_rows l.op).ril l.mem

-- the rows of a store
abbrev pub store_rows : StoreOp → RegisterRows
store_rows op = get_or STORE_ROWS (store_place op) (record { rx = None; rxy = None; ril = None })

abbrev pub store_memory : Store → Option MemoryInstruction
store_memory s = store s.rd (store_rows s.op).rx (store_rows s.op).rxy (store_rows s.op).ril s.mem

-- the machine rows and the operand of one that is neither a load nor a store of one register
abbrev pub rest_memory : Inst → Option MemoryInstruction
rest_memory (I.AluRX op rd ri mem) = operate (is_some (alu_rx op) || is_some (alu_rxy op)) (alu_rx op) (alu_rxy op) rd ri mem
rest_memory (I.CmpRX op rn mem) = compare rn (cmp_rx op) (cmp_rxy op) (cmp_ril op) mem
rest_memory (I.StoreImm8 imm mem) = store_immediate (SiForm (low_byte imm) opcodes.MVI opcodes.MVIY) mem
rest_memory (I.StoreImm16 imm mem) = store_immediate (SilForm (low_halfword imm) opcodes.MVHHI) mem
rest_memory (I.StoreImm32SExt16 imm mem) = store_immediate (SilForm (low_halfword imm) opcodes.MVHI) mem
rest_memory (I.StoreImm64SExt16 imm mem) = store_immediate (SilForm (low_halfword imm) opcodes.MVGHI) mem
rest_memory (I.LoadMultiple64 rt rt2 mem) = multiple rt rt2 opcodes.LMG false mem
rest_memory (I.StoreMultiple64 rt rt2 mem) = multiple rt rt2 opcodes.STMG (holds_scratch rt rt2) mem
rest_memory (I.LoadAddr rd mem) = Some (record { form = address_form rd; operand = mem; accesses = false; operands_valid = is_general rd; reads_scratch = false })
rest_memory (I.AtomicRmw op rd rn mem) = load_and_operate (atomic_rsy op) rd rn mem
rest_memory (I.AtomicCas32 rd ri rn mem) = compare_and_swap (Some opcodes.CS) opcodes.CSY rd ri rn mem
rest_memory (I.AtomicCas64 rd ri rn mem) = compare_and_swap None opcodes.CSG rd ri rn mem
rest_memory (I.Vector v) = vector_memory v
rest_memory _ = None

-- the machine rows and the operand of an instruction that is no load of one register
abbrev pub other_memory : Inst → Option MemoryInstruction
other_memory i = by_store store_memory (rest_memory i) (as_store i)

-- the machine rows and the operand of an instruction with a memory operand, where it is one
abbrev pub memory : Inst → Option MemoryInstruction
memory i = by_load load_memory (other_memory i) (as_load i)

-- the code of the access's faults: that of the flags, where it accesses memory and they have one
abbrev pub fault_code : MemoryInstruction → Option TrapKind
fault_code x = cond x.accesses (flags_of x.operand).trap None

-- ---- machines without relative loads, stores and compares

-- one of the rows is relative to the instruction
abbrev pub has_relative_row : StorageForm → Bool
has_relative_row (RxForm register rx_opcode rxy_opcode (Some opcode)) = true
has_relative_row form = false

-- it accesses an operand that is relative to it, and has a row for that
abbrev pub accesses_relative : Option MemoryInstruction → Bool
accesses_relative None = false
accesses_relative (Some x) = has_relative_row x.form && x.accesses && is_relative x.operand

-- the other rows of an access that has such a row
abbrev pub other_rows : StorageForm → (accesses : Bool) → Option StorageForm
other_rows (RxForm register rx_opcode rxy_opcode (Some opcode)) true = Some (RxForm register rx_opcode rxy_opcode None)
other_rows form accesses = None

-- an instruction with other rows
abbrev pub with_rows : MemoryInstruction → StorageForm → MemoryInstruction
with_rows x form = record x { form = form }

-- an access by its rows that aren't relative, where it has one that is: the address of a relative operand then comes first
abbrev pub without_relative : Option MemoryInstruction → Option MemoryInstruction
without_relative None = None
without_relative (Some x) = option_map (with_rows x) (other_rows x.form x.accesses)

-- the access of an instruction by its rows that aren't relative, where it has one that is
abbrev pub loaded_memory : Inst → Option MemoryInstruction
loaded_memory i = without_relative (memory i)
