-- What the instructions with an operand in memory do (Principles of Operation, chapter 7, "General instructions"; their names are cranelift-codegen's),
-- the operand's address, and when a step needs `%r1` for it.
use Rattle.std.specs.Prelude.{ℕ, ◌+◌, ◌-◌, pos, Bool, true, false, not, ◌&&◌, ◌||◌, nat_eq, Option, Some, None}
use Rattle.s390x_base.specs.Regs.{number_of}
use Rattle.s390x_base.specs.declared.regs.Reg.{Reg}
use Rattle.s390x_inst.specs.declared.args.MemArg.{MemArg}
use Rattle.s390x_inst.specs.declared.args.MemArg.TheVariants.{BXD12, BXD20, Label, Constant, Symbol, RegOffset}
use Rattle.s390x_inst.specs.declared.ops.ALUOp.{ALUOp}
use Rattle.s390x_inst.specs.declared.ops.CmpOp.{CmpOp}
use Rattle.s390x_inst.specs.declared.ops.CmpOp.TheVariants as C
use Rattle.s390x_inst.specs.declared.inst.Inst.{Inst}
use Rattle.s390x_inst.specs.declared.inst.Inst.TheVariants as I
use Rattle.s390x_inst.specs.declared.load.Load.{Load}
use Rattle.s390x_inst.specs.declared.load.LoadOp.{LoadOp}
use Rattle.s390x_inst.specs.declared.load.LoadOp.TheVariants as LoadOps
use Rattle.s390x_inst.specs.Loads.{as_load, by_load}
use Rattle.s390x_inst.specs.declared.store.Store.{Store as StoreView}
use Rattle.s390x_inst.specs.declared.store.StoreOp.{StoreOp}
use Rattle.s390x_inst.specs.declared.store.StoreOp.TheVariants as StoreOps
use Rattle.s390x_inst.specs.Stores.{as_store, by_store}
use Rattle.s390x_inst.specs.declared.whole.WholeAccess.{WholeAccess}
use Rattle.s390x_inst.specs.declared.whole.WholeLayout.{WholeLayout}
use Rattle.s390x_inst.specs.declared.whole.WholeLayout.TheVariants as W
use Rattle.s390x_inst.specs.Wholes.{as_whole, by_whole, by_direction}
use Rattle.s390x_inst.specs.declared.vec_inst.VecInst.{VecInst}
use Rattle.s390x_inst.specs.declared.vec_inst.VecInst.TheVariants as V
use Rattle.s390x_lanes.specs.declared.size.ElementSize.{ElementSize}
use Rattle.s390x_lanes.specs.declared.operators.Signedness.TheVariants.{Signed, Unsigned}
use Rattle.s390x_typed_steps.specs.General.{low_byte, low_halfword}
use Rattle.s390x_typed_steps.specs.Memory.{is_left_lane}
use Rattle.s390x_typed_steps.specs.Operands.{fits_12, fits_20, is_relative}
use Rattle.s390x_typed_steps.specs.declared.mem_inst_type.MemInstType.{MemInstType}
use Rattle.s390x_operations.specs.Bits.{extended_bits}
use Rattle.s390x_operations.specs.State.{Registers}
use Rattle.s390x_operations.specs.Values.{in_byte_order}
use Rattle.s390x_operations.specs.declared.size.Size.{Size}
use Rattle.s390x_operations.specs.declared.size.Size.TheVariants.{Halfword, Word, Doubleword}
use Rattle.s390x_operations.specs.declared.size.Width.{Width}
use Rattle.s390x_operations.specs.declared.size.Width.TheVariants.{Bits8, Bits16, Bits32, Bits64}
use Rattle.s390x_operations.specs.declared.operand.Source.{Source}
use Rattle.s390x_operations.specs.declared.operand.Source.TheVariants.{Memory as InMemory, AlignedMemory}
use Rattle.s390x_operations.specs.declared.operand.Operand.{Operand}
use Rattle.s390x_operations.specs.declared.operator.Operator.TheVariants.{Move}
use Rattle.s390x_operations.specs.declared.effect.Effect.{Effect}
use Rattle.s390x_operations.specs.declared.effect.Effect.TheVariants.{Compute, Compare, Store, LoadAndOperate, CompareAndSwap, LoadMultiple, StoreMultiple, LoadVector, StoreVector}
use Rattle.s390x_operations.specs.declared.effect.VectorLayout.{VectorLayout}
use Rattle.s390x_operations.specs.declared.effect.CodeRule.{CodeRule}
use Rattle.s390x_operations.specs.declared.effect.CodeRule.TheVariants.{Kept, Set}
use Rattle.s390x_operations.specs.declared.effect.Operation.{Operation}
use Rattle.s390x_machine.specs.Computations.{Second, unsigned_word, signed_word, signed_halfword, unsigned_halfword, doubleword, Computation, alu_computation, alu_two_rule, Comparison, comparison, with_rule, operand_of}
use Rattle.s390x_machine.specs.Layout.{Layout, block_address, constant_address}
use Rattle.s390x_machine.specs.Operands.{value_in, address_by_base, address_by_index, values_from}
use Rattle.s390x_machine.specs.Semantics.{all_bits}
use Rattle.s390x_machine.specs.VectorSteps.{elements_of, lane_bits}

-- ---- addresses

-- The address of an operand at a step: base plus index plus displacement, a register plus an offset, or where a block, a constant or a symbol plus an
-- offset stands. A step has no frame operands
abbrev pub operand_address : Layout → MemArg → Option (Registers → ℕ)
operand_address L (BXD12 base index disp flags) = Some (λ r. address_by_index r (number_of base) (number_of index) (pos disp))
operand_address L (BXD20 base index disp flags) = Some (λ r. address_by_index r (number_of base) (number_of index) disp)
operand_address L (RegOffset reg off flags) = Some (λ r. address_by_base r (number_of reg) off)
operand_address L (Label target) = Some (λ r. block_address L target.0)
operand_address L (Constant constant) = Some (λ r. constant_address L constant.0)
operand_address L (Symbol name offset flags) = Some (λ r. L.offsets.environment.symbol_value name offset)
operand_address L _ = None

-- the right halves of registers
abbrev pub is_word : Size → Bool
is_word Word = true
is_word _ = false

-- there is an index
abbrev pub has_index : Reg → Bool
has_index index = not (nat_eq (number_of index) 0)

-- A step needs `%r1` where the rows have no form for its operand as it stands: an offset that no displacement of theirs takes, an index that they
-- lack, or an address relative to the instruction that they can't have
abbrev pub needs_scratch : MemInstType → MemArg → Bool
needs_scratch mi (RegOffset reg off flags) = not (fits_12 off) && not (fits_20 off && mi.have_d20)
needs_scratch mi (BXD12 base index disp flags) = not mi.have_index && has_index index
needs_scratch mi (BXD20 base index disp flags) = not mi.have_d20 || (not mi.have_index && has_index index)
needs_scratch mi (Label target) = not mi.have_pcrel
needs_scratch mi (Constant constant) = not mi.have_pcrel
needs_scratch mi (Symbol name offset flags) = not mi.have_pcrel || (not flags.aligned && not mi.have_unaligned_pcrel)
needs_scratch mi _ = false

-- ---- what an instruction does with the memory at an address

-- 8 bits, without a sign
abbrev pub byte : Second
byte = record { width = Bits8; sign = Unsigned; reversed = false }

-- 8 bits, with their sign
abbrev pub signed_byte : Second
signed_byte = record { width = Bits8; sign = Signed; reversed = false }

-- so many bits, their bytes in reverse order
abbrev pub reversed_bytes : Width → Second
reversed_bytes width = record { width = width; sign = Unsigned; reversed = true }

-- the memory at an address as the second operand
abbrev pub operand_at : Second → (address : ℕ) → Operand
operand_at s address = record { source = InMemory address; width = s.width; sign = s.sign; reversed = s.reversed }

-- register d becomes the operator's value on itself and the memory
abbrev pub computes_at : CodeRule → Computation → (d address : ℕ) → Registers → Operation
computes_at rule c d address r = with_rule rule (Compute c.operator c.size d (value_in c.size r d) (operand_at c.second address))

-- the code becomes the order of register n and the memory
abbrev pub compares_at : Comparison → (n address : ℕ) → Registers → Operation
compares_at c n address r = with_rule Set (Compare c.sign c.size (value_in c.size r n) (operand_at c.second address))

-- register d becomes the memory; what the size leaves stays
abbrev pub loads_at : Size → Second → (d address : ℕ) → Registers → Operation
loads_at size s d address r = with_rule Kept (Compute Move size d (value_in size r d) (operand_at s address))

-- register d becomes the address
abbrev pub loads_address : (d address : ℕ) → Registers → Operation
loads_address d address r = with_rule Kept (Compute Move Doubleword d (r.general d) (operand_of doubleword address))

-- the memory becomes the low bits of register n
abbrev pub stores_at : Second → (n address : ℕ) → Registers → Operation
stores_at s n address r = with_rule Kept (Store s.width (in_byte_order s.reversed s.width (r.general n)) (InMemory address))

-- the memory becomes the low bits of a value
abbrev pub stores_value : Width → (stored address : ℕ) → Registers → Operation
stores_value width stored address r = with_rule Kept (Store width stored (InMemory address))

-- 16 bits of an immediate as 64, with their sign
abbrev pub signed_immediate : (bits : ℕ) → ℕ
signed_immediate bits = extended_bits Signed Bits16 Doubleword bits

-- the registers from the first to the last become the doublewords in memory
abbrev pub loads_multiple : (first last address : ℕ) → Registers → Operation
loads_multiple first last address r = with_rule Kept (LoadMultiple first (last + 1 - first) address)

-- the doublewords in memory become the registers from the first to the last
abbrev pub stores_multiple : (first last address : ℕ) → Registers → Operation
stores_multiple first last address r = with_rule Kept (StoreMultiple (values_from r first 16) (last + 1 - first) address)

-- register d becomes the memory, which becomes the operator's value on itself and register n, in one access
abbrev pub operates_at : Computation → (d n address : ℕ) → Registers → Operation
operates_at c d n address r = with_rule Set (LoadAndOperate c.operator c.size d (value_in c.size r n) address)

-- the memory becomes register n where it is register d, else register d becomes the memory, in one access
abbrev pub swaps_at : Size → (d n address : ℕ) → Registers → Operation
swaps_at size d n address r = with_rule Set (CompareAndSwap size d (value_in size r d) (value_in size r n) address)

-- vector register d becomes what lies there, of which some bits are told
abbrev pub loads_vector : VectorLayout → (known d address : ℕ) → Registers → Operation
loads_vector layout known d address r = with_rule Kept (LoadVector layout d (r.vector d) known address)

-- the memory becomes vector register d
abbrev pub stores_vector : VectorLayout → (d address : ℕ) → Registers → Operation
stores_vector layout d address r = with_rule Kept (StoreVector layout (r.vector d) address)

-- ---- an operand that has to be aligned

-- the same place in memory, on a boundary
abbrev pub aligned_source : Source → Source
aligned_source (InMemory address) = AlignedMemory address
aligned_source s = s

-- an operand there
abbrev pub aligned_operand : Operand → Operand
aligned_operand o = record { source = aligned_source o.source; width = o.width; sign = o.sign; reversed = o.reversed }

-- a load, a comparison or a store there
abbrev pub aligned_effect : Effect → Effect
aligned_effect (Compute operator size target first second) = Compute operator size target first (aligned_operand second)
aligned_effect (Compare sign size first second) = Compare sign size first (aligned_operand second)
aligned_effect (Store width stored destination) = Store width stored (aligned_source destination)
aligned_effect effect = effect

-- an operation there, where this holds
abbrev pub aligned_where : Bool → Operation → Operation
aligned_where false operation = operation
aligned_where true operation = record { effect = aligned_effect operation.effect; rule = operation.rule }

-- ---- which forms of an operand the rows of an instruction have

-- rows with an index: displacements of 12 bits and of 20, and an address relative to the instruction, which an access wants aligned
abbrev pub indexed_forms : (short long relative : Bool) → MemInstType
indexed_forms short long relative = record { have_d12 = short; have_d20 = long; have_pcrel = relative; have_unaligned_pcrel = false; have_index = true }

-- rows without an index
abbrev pub based_forms : (short long : Bool) → MemInstType
based_forms short long = record { have_d12 = short; have_d20 = long; have_pcrel = false; have_unaligned_pcrel = false; have_index = false }

-- operations on words have both displacements, those on doublewords that of 20 bits
abbrev pub alu_forms : ALUOp → MemInstType
alu_forms op = indexed_forms (is_word (alu_computation op).size) true false

-- comparisons likewise, all also relative; two are relative alone
abbrev pub cmp_forms : CmpOp → MemInstType
cmp_forms C.CmpL32Ext16 = indexed_forms false false true
cmp_forms C.CmpL64Ext16 = indexed_forms false false true
cmp_forms op = indexed_forms (is_word (comparison op).size) true true

-- rows on vector registers have a displacement of 12 bits
abbrev pub vector_forms : MemInstType
vector_forms = indexed_forms true false false

-- the leftmost word or doubleword of a float register has rows with one of 20 bits too
abbrev pub lane_forms : (size lane register : ℕ) → MemInstType
lane_forms size lane register = indexed_forms true (is_left_lane size lane register) false

-- ---- the instructions

-- what an instruction does with its operand in memory
pub record OperandStep : Type 0 where
  pub operand : MemArg
  -- which forms of an operand its rows have
  pub forms : MemInstType
  -- whether it accesses the memory at the operand's address
  pub accesses : Bool
  pub operation : (address : ℕ) → Registers → Operation

-- its access is relative to the instruction, and so has to be aligned
abbrev pub is_relative_access : OperandStep → Bool
is_relative_access x = is_relative x.operand && (x.accesses && not (needs_scratch x.forms x.operand))

-- what an instruction does with an operand whose address is loaded first: no row takes an operand relative to the instruction
abbrev pub loaded_step : OperandStep → OperandStep
loaded_step x = record x { forms = record x.forms { have_pcrel = false } }

-- one that accesses the memory there
abbrev pub accesses_at : MemInstType → MemArg → (ℕ → Registers → Operation) → Option OperandStep
accesses_at forms mem operation = Some (record { operand = mem; forms = forms; accesses = true; operation = operation })

-- LOAD ADDRESS accesses nothing, and so takes every relative address
abbrev pub takes_address : MemArg → (ℕ → Registers → Operation) → Option OperandStep
takes_address mem operation =
    Some (record { operand = mem; forms = record { have_d12 = true; have_d20 = true; have_pcrel = true; have_unaligned_pcrel = true; have_index = true }; accesses = false; operation = operation })

-- loads and stores of one element of a vector register
abbrev pub lane_operand_step : VecInst → Option OperandStep
lane_operand_step (V.VecLoadLane size rd ri mem lane) = accesses_at vector_forms mem (loads_vector (VectorLayout.Element (elements_of size) lane false) all_bits (number_of rd))
lane_operand_step (V.VecLoadLaneRev size rd ri mem lane) = accesses_at vector_forms mem (loads_vector (VectorLayout.Element (elements_of size) lane true) all_bits (number_of rd))
lane_operand_step (V.VecLoadLaneUndef size rd mem lane) = accesses_at (lane_forms size lane (number_of rd)) mem (loads_vector (VectorLayout.Element (elements_of size) lane false) (lane_bits (elements_of size) lane) (number_of rd))
lane_operand_step (V.VecLoadLaneRevUndef size rd mem lane) = accesses_at vector_forms mem (loads_vector (VectorLayout.Element (elements_of size) lane true) (lane_bits (elements_of size) lane) (number_of rd))
lane_operand_step (V.VecStoreLane size rd mem lane) = accesses_at (lane_forms size lane (number_of rd)) mem (stores_vector (VectorLayout.Element (elements_of size) lane false) (number_of rd))
lane_operand_step (V.VecStoreLaneRev size rd mem lane) = accesses_at vector_forms mem (stores_vector (VectorLayout.Element (elements_of size) lane true) (number_of rd))
lane_operand_step _ = None

-- those of elements, one of which may go to all
abbrev pub part_operand_step : VecInst → Option OperandStep
part_operand_step (V.VecLoadReplicate size rd mem) = accesses_at vector_forms mem (loads_vector (VectorLayout.Replicated (elements_of size) false) all_bits (number_of rd))
part_operand_step (V.VecLoadReplicateRev size rd mem) = accesses_at vector_forms mem (loads_vector (VectorLayout.Replicated (elements_of size) true) all_bits (number_of rd))
part_operand_step v = lane_operand_step v

-- how a whole register lies in memory
abbrev pub layout_of : WholeLayout → VectorLayout
layout_of W.Straight = VectorLayout.Whole
layout_of W.Reversed = VectorLayout.ReversedBytes ElementSize.Quadword
layout_of W.Bytes16 = VectorLayout.ReversedBytes ElementSize.Halfword
layout_of W.Bytes32 = VectorLayout.ReversedBytes ElementSize.Word
layout_of W.Bytes64 = VectorLayout.ReversedBytes ElementSize.Doubleword
layout_of W.Elements16 = VectorLayout.ReversedElements ElementSize.Halfword
layout_of W.Elements32 = VectorLayout.ReversedElements ElementSize.Word
layout_of W.Elements64 = VectorLayout.ReversedElements ElementSize.Doubleword

-- a load or a store of a whole register
abbrev pub whole_step : WholeAccess → Option OperandStep
whole_step w = accesses_at vector_forms w.mem (by_direction w.direction (loads_vector (layout_of w.layout) all_bits (number_of w.rd)) (stores_vector (layout_of w.layout) (number_of w.rd)))

-- those of vector registers
abbrev pub vector_operand_step : VecInst → Option OperandStep
vector_operand_step v = by_whole whole_step (part_operand_step v) (as_whole v)

-- what a load puts into its register, and which forms of an operand its rows have
pub record LoadedValue : Type 0 where
  pub size : Size
  pub second : Second
  pub forms : MemInstType

abbrev pub loaded_value : LoadOp → LoadedValue
loaded_value LoadOps.Load32 = record { size = Word; second = unsigned_word; forms = indexed_forms true true true }
loaded_value LoadOps.Load32ZExt8 = record { size = Word; second = byte; forms = indexed_forms false true false }
loaded_value LoadOps.Load32SExt8 = record { size = Word; second = signed_byte; forms = indexed_forms false true false }
loaded_value LoadOps.Load32ZExt16 = record { size = Word; second = unsigned_halfword; forms = indexed_forms false true true }
loaded_value LoadOps.Load32SExt16 = record { size = Word; second = signed_halfword; forms = indexed_forms true true true }
loaded_value LoadOps.Load64 = record { size = Doubleword; second = doubleword; forms = indexed_forms false true true }
loaded_value LoadOps.Load64ZExt8 = record { size = Doubleword; second = byte; forms = indexed_forms false true false }
loaded_value LoadOps.Load64SExt8 = record { size = Doubleword; second = signed_byte; forms = indexed_forms false true false }
loaded_value LoadOps.Load64ZExt16 = record { size = Doubleword; second = unsigned_halfword; forms = indexed_forms false true true }
loaded_value LoadOps.Load64SExt16 = record { size = Doubleword; second = signed_halfword; forms = indexed_forms false true true }
loaded_value LoadOps.Load64ZExt32 = record { size = Doubleword; second = unsigned_word; forms = indexed_forms false true true }
loaded_value LoadOps.Load64SExt32 = record { size = Doubleword; second = signed_word; forms = indexed_forms false true true }
loaded_value LoadOps.LoadRev16 = record { size = Halfword; second = reversed_bytes Bits16; forms = indexed_forms false true false }
loaded_value LoadOps.LoadRev32 = record { size = Word; second = reversed_bytes Bits32; forms = indexed_forms false true false }
loaded_value LoadOps.LoadRev64 = record { size = Doubleword; second = reversed_bytes Bits64; forms = indexed_forms false true false }

abbrev pub load_step : Load → Option OperandStep
load_step l = accesses_at (loaded_value l.op).forms l.mem (loads_at (loaded_value l.op).size (loaded_value l.op).second (number_of l.rd))

-- what a store takes of its register, and which forms of an operand its rows have
pub record StoredValue : Type 0 where
  pub second : Second
  pub forms : MemInstType

abbrev pub stored_value : StoreOp → StoredValue
stored_value StoreOps.Store8 = record { second = byte; forms = indexed_forms true true false }
stored_value StoreOps.Store16 = record { second = unsigned_halfword; forms = indexed_forms true true true }
stored_value StoreOps.Store32 = record { second = unsigned_word; forms = indexed_forms true true true }
stored_value StoreOps.Store64 = record { second = doubleword; forms = indexed_forms false true true }
stored_value StoreOps.StoreRev16 = record { second = reversed_bytes Bits16; forms = indexed_forms false true false }
stored_value StoreOps.StoreRev32 = record { second = reversed_bytes Bits32; forms = indexed_forms false true false }
stored_value StoreOps.StoreRev64 = record { second = reversed_bytes Bits64; forms = indexed_forms false true false }

abbrev pub store_step : StoreView → Option OperandStep
store_step s = accesses_at (stored_value s.op).forms s.mem (stores_at (stored_value s.op).second (number_of s.rd))

-- what an instruction does with its operand in storage, where it is neither a load nor a store of one register
abbrev pub rest_operand_step : Inst → Option OperandStep
rest_operand_step (I.AluRX op rd ri mem) = accesses_at (alu_forms op) mem (computes_at (alu_two_rule op) (alu_computation op) (number_of rd))
rest_operand_step (I.CmpRX op rn mem) = accesses_at (cmp_forms op) mem (compares_at (comparison op) (number_of rn))
rest_operand_step (I.LoadAddr rd mem) = takes_address mem (loads_address (number_of rd))
rest_operand_step (I.StoreImm8 imm mem) = accesses_at (based_forms true true) mem (stores_value Bits8 (low_byte imm))
rest_operand_step (I.StoreImm16 imm mem) = accesses_at (based_forms true false) mem (stores_value Bits16 (signed_immediate (low_halfword imm)))
rest_operand_step (I.StoreImm32SExt16 imm mem) = accesses_at (based_forms true false) mem (stores_value Bits32 (signed_immediate (low_halfword imm)))
rest_operand_step (I.StoreImm64SExt16 imm mem) = accesses_at (based_forms true false) mem (stores_value Bits64 (signed_immediate (low_halfword imm)))
rest_operand_step (I.LoadMultiple64 rt rt2 mem) = accesses_at (based_forms false true) mem (loads_multiple (number_of rt) (number_of rt2))
rest_operand_step (I.StoreMultiple64 rt rt2 mem) = accesses_at (based_forms false true) mem (stores_multiple (number_of rt) (number_of rt2))
rest_operand_step (I.AtomicRmw op rd rn mem) = accesses_at (based_forms false true) mem (operates_at (alu_computation op) (number_of rd) (number_of rn))
rest_operand_step (I.AtomicCas32 rd ri rn mem) = accesses_at (based_forms true true) mem (swaps_at Word (number_of rd) (number_of rn))
rest_operand_step (I.AtomicCas64 rd ri rn mem) = accesses_at (based_forms false true) mem (swaps_at Doubleword (number_of rd) (number_of rn))
rest_operand_step (I.Vector v) = vector_operand_step v
rest_operand_step _ = None

-- what an instruction does with its operand in storage, where it is no load of one register
abbrev pub other_operand_step : Inst → Option OperandStep
other_operand_step i = by_store store_step (rest_operand_step i) (as_store i)

-- the instructions with an operand in memory
abbrev pub operand_step : Inst → Option OperandStep
operand_step i = by_load load_step (other_operand_step i) (as_load i)
