-- What a step does that emission lets pass is told.
use Rattle.std.proofs.Common.{◌≡◌, ℕ, Bool, true, false, cond, ◌||◌, Option, Some, None, option_map, is_some, refl, sym, ap, ◌∙◌, subst}
use Rattle.s390x_base.specs.Regs.{number_of}
use Rattle.s390x_base.specs.declared.error.EmitError.TheVariants.{BadOperator}
use Rattle.s390x_base.specs.declared.regs.Reg.{Reg}
use Rattle.s390x_inst.specs.declared.args.MemArg.{MemArg}
use Rattle.s390x_inst.specs.declared.args.MemArg.TheVariants.{BXD12, BXD20, Label, Constant, Symbol, RegOffset, InitialSPOffset, IncomingArgOffset, OutgoingArgOffset, SlotOffset, SpillOffset}
use Rattle.s390x_inst.specs.declared.load.LoadOp.{LoadOp}
use Rattle.s390x_inst.specs.declared.load.LoadOp.TheVariants as LoadOps
use Rattle.s390x_inst.specs.Loads.{load_instruction}
use Rattle.s390x_inst.specs.declared.store.StoreOp.{StoreOp}
use Rattle.s390x_inst.specs.declared.store.StoreOp.TheVariants as StoreOps
use Rattle.s390x_inst.specs.Stores.{store_instruction}
use Rattle.s390x_inst.proofs.Transfers.{Transfer, LoadOf, StoreOf, as_transfer, by_transfer}
use Rattle.s390x_inst.specs.declared.inst.Inst.{Inst}
use Rattle.s390x_inst.specs.declared.inst.Inst.TheVariants as I
use Rattle.s390x_inst.specs.declared.vec_inst.VecInst.{VecInst}
use Rattle.s390x_inst.specs.declared.vec_inst.VecInst.TheVariants as V
use Rattle.s390x_rows.specs.declared.opcodes.TheConstants as opcodes
use Rattle.s390x_typed_steps.proofs.RelativeRows.{rest_none}
use Rattle.s390x_typed_steps.specs.Memory.{load_rows, store_rows, left_or_lane, without_relative, StorageForm, RxForm, MemoryInstruction, rest_memory, loaded_memory, operate, load_and_operate, access_vector, access_elements, access_lane, reversed_code, load_lane_opcode, store_lane_opcode, load_reversed_opcode, store_reversed_opcode, is_left_lane, load_left, store_left}
use Rattle.s390x_typed_steps.specs.General.{is_general}
use Rattle.s390x_typed_steps.specs.Operands.{is_numbered}
use Rattle.s390x_typed_steps.specs.Ranges.{OperandInRange}
use Rattle.s390x_typed_steps.specs.Steps.{Step, Plain, LoadedStep, Shortened, Opening, Back, Break, CallingStep, NoLoadStep, TailOpeningStep, TailJumpStep}
use Rattle.s390x_typed_steps.specs.Storage.{alu_rx, alu_rxy, atomic_rsy}
use Rattle.s390x_typed_steps.specs.VectorInstruction.{is_vector, is_lane, reuses_vector, element_code}
use Rattle.s390x_machine.specs.CodeAt.{IsValidInstruction, IsValidStep, ValidMemoryOr}
use Rattle.s390x_machine.specs.Layout.{Layout}
use Rattle.s390x_machine.specs.Storage.{OperandStep, operand_address, operand_step, loaded_step}
use Rattle.s390x_machine.specs.StepKinds.{StepKind, Unsupported, Performed, single_operation, performed_at, performed_by, kind_or, branch_kind, instruction_kind, loaded_kind, step_kind}

-- ---- operands in memory

-- an operand that isn't one of the frame has an address
address_told : (L : Layout) (o : OperandStep) (m : MemArg) (others : StepKind) → OperandInRange m → kind_or (performed_at o (operand_address L m)) others ≡ Unsupported → ⊥
address_told L o (InitialSPOffset off) others range e = range
address_told L o (IncomingArgOffset off) others range e = range
address_told L o (OutgoingArgOffset off) others range e = range
address_told L o (SlotOffset off) others range e = range
address_told L o (SpillOffset off) others range e = range
address_told L o m others range e = absurd (cc)

-- what isn't told by an operation isn't told by what stands behind it
behind : (p : Option Performed) (others : StepKind) → kind_or p others ≡ Unsupported → others ≡ Unsupported
behind None others e = e
behind (Some x) others e = absurd (cc)

access_told : (L : Layout) (i : Inst) (o : OperandStep) → operand_step i ≡ Some o → OperandInRange o.operand → instruction_kind L i ≡ Unsupported → ⊥
access_told L i o is range e =
    address_told L o o.operand (branch_kind i) range
    (subst (λ q. kind_or (performed_by L q) (branch_kind i) ≡ Unsupported) is (behind (single_operation L i) (kind_or (performed_by L (operand_step i)) (branch_kind i)) e))

loaded_told : (L : Layout) (i : Inst) (o : OperandStep) → operand_step i ≡ Some o → OperandInRange o.operand → loaded_kind L i ≡ Unsupported → ⊥
loaded_told L i o is range e = address_told L (loaded_step o) o.operand Unsupported range (sym (ap (λ q. kind_or (performed_by L (option_map loaded_step q)) Unsupported) is) ∙ e)

operated : (L : Layout) (t : Bool) (rx_opcode rxy_opcode : Option ℕ) (rd ri : Reg) (mem : MemArg) → ValidMemoryOr L (operate t rx_opcode rxy_opcode rd ri mem) ⊥ → OperandInRange mem
operated L true rx_opcode rxy_opcode rd ri mem valid = valid.range
operated L false rx_opcode rxy_opcode rd ri mem valid = absurd valid

locked : (L : Layout) (o : Option ℕ) (rd rn : Reg) (mem : MemArg) → ValidMemoryOr L (load_and_operate o rd rn mem) ⊥ → OperandInRange mem
locked L (Some opcode) rd rn mem valid = valid.range
locked L None rd rn mem valid = absurd valid

elements : (L : Layout) (opcode : ℕ) (rd : Reg) (code : Option ℕ) (mem : MemArg) → ValidMemoryOr L (access_elements opcode rd code mem) (Some BadOperator ≡ None) → OperandInRange mem
elements L opcode rd (Some code) mem valid = valid.range
elements L opcode rd None mem valid = absurd (cc)

one_lane : (L : Layout) (v : Bool) (opcode : ℕ → ℕ) (register : ℕ) (code : Option ℕ) (size lane : ℕ) (mem : MemArg) → ValidMemoryOr L (access_lane v opcode register code size lane mem) (Some BadOperator ≡ None) → OperandInRange mem
one_lane L v opcode register None size lane mem valid = absurd (cc)
one_lane L v opcode register (Some code) size lane mem valid = go (is_lane size lane) valid
  where
    go : (t : Bool) → ValidMemoryOr L (cond t (access_vector v (Rattle.s390x_typed_steps.specs.Memory.VrxForm register (opcode code) lane) mem) None) (Some BadOperator ≡ None) → OperandInRange mem
    go true valid = valid.range
    go false valid = absurd (cc)

left_lane : (L : Layout) (left : (size register : ℕ) → StorageForm) (opcode : ℕ → ℕ) (size lane : ℕ) (rd : Reg) (mem : MemArg) → ValidMemoryOr L (left_or_lane left opcode size lane rd mem) (Some BadOperator ≡ None) → OperandInRange mem
left_lane L left opcode size lane rd mem valid = go (is_left_lane size lane (number_of rd)) valid
  where
    go : (t : Bool) → ValidMemoryOr L (cond t (access_vector (is_vector rd) (left size (number_of rd)) mem) (access_lane (is_vector rd) opcode (number_of rd) (element_code size) size lane mem)) (Some BadOperator ≡ None) → OperandInRange mem
    go true valid = valid.range
    go false valid = one_lane L (is_vector rd) opcode (number_of rd) (element_code size) size lane mem valid

-- what has no other rows isn't a step that emission lets pass
refused : (L : Layout) (o : Option MemoryInstruction) → o ≡ None → ValidMemoryOr L o ⊥ → ⊥
refused L o e valid = subst (λ m. ValidMemoryOr L m ⊥) e valid

-- ---- all of them

abbrev IsTold : StepKind → Type 0
IsTold Unsupported = ⊥
IsTold k = Unit {0}

-- of an instruction without an operand in memory its kind is told, and of one with an operand that lies in its range
abbrev ToldOr : Option OperandStep → StepKind → Type 0
ToldOr None k = IsTold k
ToldOr (Some o) k = Unit {0}

abbrev RangeOf : Option OperandStep → Type 0
RangeOf None = Unit {0}
RangeOf (Some o) = OperandInRange o.operand

-- the last clause of each is a copy for each other instruction
told_vector : (L : Layout) (v : VecInst) → ToldOr (operand_step (I.Vector v)) (instruction_kind L (I.Vector v))
told_vector L (V.VecRR op rd rn) = tt
told_vector L v = tt

told_otherwise : (L : Layout) (i : Inst) → IsValidInstruction L i → ToldOr (operand_step i) (instruction_kind L i)
told_otherwise L (I.Loop' mask body all) valid = absurd valid
told_otherwise L (I.CondBreak mask) valid = absurd valid
told_otherwise L (I.Call link info) valid = absurd valid
told_otherwise L (I.ReturnCall info) valid = absurd valid
told_otherwise L (I.Vector v) valid = told_vector L v
told_otherwise L i valid = tt

ranged_vector : (L : Layout) (v : VecInst) → IsValidInstruction L (I.Vector v) → RangeOf (operand_step (I.Vector v))
ranged_vector L (V.VecLoadReplicate size rd mem) valid = elements L opcodes.VLREP rd (element_code size) mem valid
ranged_vector L (V.VecLoadReplicateRev size rd mem) valid = elements L opcodes.VLBRREP rd (reversed_code size) mem valid
ranged_vector L (V.VecLoadLane size rd ri mem lane) valid = one_lane L (reuses_vector rd ri) load_lane_opcode (number_of rd) (element_code size) size lane mem valid
ranged_vector L (V.VecLoadLaneRev size rd ri mem lane) valid = one_lane L (reuses_vector rd ri) load_reversed_opcode (number_of rd) (reversed_code size) size lane mem valid
ranged_vector L (V.VecLoadLaneUndef size rd mem lane) valid = left_lane L load_left load_lane_opcode size lane rd mem valid
ranged_vector L (V.VecLoadLaneRevUndef size rd mem lane) valid = one_lane L (is_vector rd) load_reversed_opcode (number_of rd) (reversed_code size) size lane mem valid
ranged_vector L (V.VecStoreLane size rd mem lane) valid = left_lane L store_left store_lane_opcode size lane rd mem valid
ranged_vector L (V.VecStoreLaneRev size rd mem lane) valid = one_lane L (is_vector rd) store_reversed_opcode (number_of rd) (reversed_code size) size lane mem valid
ranged_vector L v valid = assumption

ranged : (L : Layout) (i : Inst) → IsValidInstruction L i → RangeOf (operand_step i)
ranged L (I.AluRX op rd ri mem) valid = operated L (is_some (alu_rx op) || is_some (alu_rxy op)) (alu_rx op) (alu_rxy op) rd ri mem valid
ranged L (I.AtomicRmw op rd rn mem) valid = locked L (atomic_rsy op) rd rn mem valid
ranged L (I.Vector v) valid = ranged_vector L v valid
ranged L i valid = assumption

told_by : (L : Layout) (i : Inst) (o : Option OperandStep) → operand_step i ≡ o → ToldOr o (instruction_kind L i) → RangeOf o → instruction_kind L i ≡ Unsupported → ⊥
told_by L i None is told range e = subst IsTold e told
told_by L i (Some o) is told range e = access_told L i o is range e

told_instruction : (L : Layout) (i : Inst) → IsValidInstruction L i → instruction_kind L i ≡ Unsupported → ⊥
told_instruction L i valid e = told_by L i (operand_step i) refl (told_otherwise L i valid) (ranged L i valid) e

row_range : (L : Layout) (register : ℕ) (short long relative : Option ℕ) (general reads : Bool) (mem : MemArg) →
    ValidMemoryOr L (without_relative (Some (record { form = RxForm register short long relative; operand = mem; accesses = true; operands_valid = general; reads_scratch = reads }))) ⊥ → OperandInRange mem
row_range L register short long (Some opcode) general reads mem valid = valid.range
row_range L register short long None general reads mem valid = absurd valid

-- the last clause is a copy for each
told_load_loaded : (L : Layout) (op : LoadOp) (rd : Reg) (mem : MemArg) → ValidMemoryOr L (loaded_memory (load_instruction op rd mem)) ⊥ → loaded_kind L (load_instruction op rd mem) ≡ Unsupported → ⊥
told_load_loaded L LoadOps.Load64 rd mem valid e = loaded_told L (load_instruction LoadOps.Load64 rd mem) _ refl (row_range L (number_of rd) (load_rows LoadOps.Load64).rx (load_rows LoadOps.Load64).rxy (load_rows LoadOps.Load64).ril (is_general rd) false mem valid) e
told_load_loaded L op rd mem valid e = loaded_told L (load_instruction op rd mem) _ refl (row_range L (number_of rd) (load_rows op).rx (load_rows op).rxy (load_rows op).ril (is_general rd) false mem valid) e

told_store_loaded : (L : Layout) (op : StoreOp) (rd : Reg) (mem : MemArg) → ValidMemoryOr L (loaded_memory (store_instruction op rd mem)) ⊥ → loaded_kind L (store_instruction op rd mem) ≡ Unsupported → ⊥
told_store_loaded L StoreOps.Store64 rd mem valid e = loaded_told L (store_instruction StoreOps.Store64 rd mem) _ refl (row_range L (number_of rd) (store_rows StoreOps.Store64).rx (store_rows StoreOps.Store64).rxy (store_rows StoreOps.Store64).ril (is_general rd) (is_numbered 1 rd) mem valid) e
told_store_loaded L op rd mem valid e = loaded_told L (store_instruction op rd mem) _ refl (row_range L (number_of rd) (store_rows op).rx (store_rows op).rxy (store_rows op).ril (is_general rd) (is_numbered 1 rd) mem valid) e

told_loaded_or : (L : Layout) (i : Inst) (rest : Option MemoryInstruction) → without_relative rest ≡ None → (o : Option Transfer) →
    ValidMemoryOr L (by_transfer (λ l. loaded_memory (load_instruction l.op l.rd l.mem)) (λ s. loaded_memory (store_instruction s.op s.rd s.mem)) (without_relative rest) o) ⊥ →
    loaded_kind L (by_transfer (λ l. load_instruction l.op l.rd l.mem) (λ s. store_instruction s.op s.rd s.mem) i o) ≡ Unsupported → ⊥
told_loaded_or L i rest none None valid e = refused L (without_relative rest) none valid
told_loaded_or L i rest none (Some (LoadOf l)) valid e = told_load_loaded L l.op l.rd l.mem valid e
told_loaded_or L i rest none (Some (StoreOf s)) valid e = told_store_loaded L s.op s.rd s.mem valid e

told_loaded : (L : Layout) (i : Inst) → ValidMemoryOr L (loaded_memory i) ⊥ → loaded_kind L i ≡ Unsupported → ⊥
told_loaded L (I.CmpRX op rn mem) valid e = loaded_told L (I.CmpRX op rn mem) _ refl valid.range e
told_loaded L i valid e = told_loaded_or L i (rest_memory i) (rest_none i) (as_transfer i) valid e

pub told : (L : Layout) (s : Step) → IsValidStep L s → step_kind L s ≡ Unsupported → ⊥
told L (Plain i) valid e = told_instruction L i valid e
told L (Shortened r i) valid e = told_instruction L i valid e
told L (LoadedStep i) valid e = told_loaded L i valid e
told L Opening valid e = absurd (cc)
told L (Back mask target) valid e = absurd (cc)
told L (Break mask target) valid e = absurd (cc)
told L (CallingStep c) valid e = absurd (cc)
told L NoLoadStep valid e = valid
told L (TailOpeningStep target first_saved is_lost) valid e = absurd (cc)
told L (TailJumpStep target) valid e = absurd (cc)
