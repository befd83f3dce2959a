-- What a machine row does with its fields (Principles of Operation, chapter 7, "General instructions"). `OperandSource` of
-- `s390x_format` tells the order of the registers among them.
use Rattle.std.specs.Prelude.{ℕ, ◌+◌, ◌-◌, ◌*◌, ◌^◌, ◌%◌, ◌==◌, nat_lt, Bool, true, false, ◌&&◌, if◌then◌else◌, pos, ◌+ℤ◌, List, [], ◌∷◌, Option, Some, None, slice_index}
use Rattle.s390x_format.specs.declared.fields.Fields.{Fields}
use Rattle.s390x_lanes.specs.Size.{element_bits, lane_count, size_of_code}
use Rattle.s390x_lanes.specs.Lanes.{lane}
use Rattle.s390x_lanes.specs.Rows.{operation_of}
use Rattle.s390x_lanes.specs.declared.operators.VectorOperation.{VectorOperation}
use Rattle.s390x_lanes.specs.declared.size.ElementSize.{ElementSize}
use Rattle.s390x_operations.specs.Numbers.{low}
use Rattle.s390x_operations.specs.Vectors.{register_after_load}
use Rattle.s390x_operations.specs.declared.effect.VectorLayout.{VectorLayout}
use Rattle.s390x_operations.specs.State.{Registers, wrapping_add64}
use Rattle.s390x_operations.specs.declared.size.Size.TheVariants.{Doubleword}
use Rattle.s390x_machine.specs.Operands.{value_in, address_by_index, address_by_base, values_from, rotated_operand, performed_where}
use Rattle.s390x_operations.specs.declared.operand.Source.{Source}
use Rattle.s390x_operations.specs.declared.operand.Source.TheVariants.{Value, Memory as InMemory, AlignedMemory}
use Rattle.s390x_operations.specs.declared.operand.Operand.{Operand}
use Rattle.s390x_lanes.specs.declared.operators.Signedness.TheVariants.{Signed, Unsigned}
use Rattle.s390x_operations.specs.Bits.{selection, extended_bits}
use Rattle.s390x_operations.specs.Values.{in_byte_order}
use Rattle.s390x_operations.specs.Effects.{is_selected}
use Rattle.s390x_operations.specs.declared.size.Width.TheVariants.{Bits8, Bits16, Bits64}
use Rattle.s390x_operations.specs.declared.operator.Operator.{Operator}
use Rattle.s390x_operations.specs.declared.operator.Operator.TheVariants.{SelectedBits, Move, PopulationCountByByte, PopulationCount}
use Rattle.s390x_operations.specs.declared.operator.SelectedBitsOperator.{SelectedBitsOperator}
use Rattle.s390x_operations.specs.declared.effect.Effect.{Effect}
use Rattle.s390x_operations.specs.declared.effect.CodeRule.{CodeRule}
use Rattle.s390x_operations.specs.declared.effect.CodeRule.TheVariants.{Kept, Set}
use Rattle.s390x_format.specs.declared.semantics.OperandSource.{OperandSource}
use Rattle.s390x_format.specs.declared.semantics.OperandSource.TheVariants.{Register, ThreeRegisters, Indexed, IndexedAddress, Relative, Immediate, ThreeImmediate, ShiftedImmediate, Amount, AccessRegister, RelativeAddress}
use Rattle.s390x_format.specs.declared.semantics.SecondOperand.{SecondOperand}
use Rattle.s390x_format.specs.declared.semantics.RowSemantics.{RowSemantics}
use Rattle.s390x_format.specs.declared.semantics.RowSemantics.TheVariants.{Compute, Compare, MoveWhere, CountOnes, RotateThen, MultiplySigned, MultiplyLogical, DivideSigned, DivideLogical, CompareAndTrap, CompareImmediateAndTrap, FindLeftmostOne, Havoc}
use Rattle.s390x_format.specs.declared.semantics.RowSemantics.TheVariants.{BranchToRegister, BranchRelative, Store, StoreByte, StoreImmediate, LoadMultiple, StoreMultiple, LoadAndOperate, CompareAndSwap, BranchAndSaveToRegister, BranchAndSaveRelative}
use Rattle.s390x_format.specs.declared.semantics.RowSemantics.TheVariants.{Elements, ShiftElements, LoadVector, StoreVector, LoadLeft, StoreLeft, MoveLeft, RegisterToLeft, LeftToRegister, JoinRegisters, InsertElement, ExtractElement}
use Rattle.s390x_format.specs.declared.row.MachineRow.{MachineRow}
use Rattle.s390x_format.specs.declared.table.TheConstants.{MACHINE_ROWS}
use Rattle.s390x_format.specs.declared.semantics.VectorStorage.{VectorStorage}
use Rattle.s390x_format.specs.declared.semantics.VectorStorage.TheVariants.{Whole, ReversedBytes, ReversedElements, Replicated, Element}
use Rattle.s390x_machine.specs.declared.action_type.Action.{Action}
use Rattle.s390x_machine.specs.declared.action_type.Action.TheVariants.{Perform, Branch, BranchAndSave}

-- a register field's number
abbrev pub register_field : Fields → ℕ → ℕ
register_field f i = slice_index f.regs i

-- a mask field's value
abbrev pub mask_field : Fields → ℕ → ℕ
mask_field f i = slice_index f.masks i

-- base plus index plus displacement, modulo 2 ^ 64
abbrev pub indexed_address : Fields → Registers → ℕ
indexed_address f r = address_by_index r (register_field f 1) (register_field f 2) f.disp

-- the instruction's own address plus its distance, modulo 2 ^ 64
abbrev pub relative_address : Fields → ℕ → ℕ
relative_address f address = low Doubleword (pos address +ℤ f.imm)

-- the first operand's register
abbrev pub first_register : OperandSource → Fields → ℕ
first_register ThreeRegisters f = register_field f 1
first_register ThreeImmediate f = register_field f 1
first_register Amount f = register_field f 1
first_register _ f = register_field f 0

-- the second operand's value, or its address where it is in memory
abbrev pub source : OperandSource → Fields → Registers → ℕ → Source
source Register f r address = Value (r.general (register_field f 1))
source ThreeRegisters f r address = Value (r.general (register_field f 2))
source Indexed f r address = InMemory (indexed_address f r)
source IndexedAddress f r address = Value (indexed_address f r)
source Relative f r address = AlignedMemory (relative_address f address)
source RelativeAddress f r address = Value (relative_address f address)
source Immediate f r address = Value (low Doubleword f.imm)
source ThreeImmediate f r address = Value (low Doubleword f.imm)
source (ShiftedImmediate n) f r address = Value (low Doubleword f.imm * 2 ^ n)
source Amount f r address = Value (address_by_base r (register_field f 2) f.disp)
source AccessRegister f r address = Value (r.access (register_field f 1))

-- the second operand, and how it is read
abbrev pub operand : SecondOperand → Fields → Registers → ℕ → Operand
operand s f r address = record { source = source s.operand_source f r address; width = s.width; sign = s.sign; reversed = s.reversed }

-- an effect with its rule for the condition code; the next instruction follows
abbrev pub performs : CodeRule → Effect → Action
performs rule effect = Perform (record { effect = effect; rule = rule })

-- the mode of a count of ones: 0 counts those of each byte
abbrev pub count_operator : ℕ → Operator
count_operator mode = if mode == 0 then PopulationCountByByte else PopulationCount

-- bits selected from a first one to a last one; a first one with 128 added means that only the code is set
abbrev pub rotates : SelectedBitsOperator → CodeRule → (target first last : ℕ) → Registers → Operand → Action
rotates op rule target first last r second =
    if nat_lt first 64 then performs rule (Effect.Compute (SelectedBits op (selection first last)) Doubleword target (r.general target) second)
    else performs Set (Effect.Test (SelectedBits op (selection (first - 128) last)) Doubleword (r.general target) second)

-- how many registers there are from one to another, register 0 after 15
abbrev pub registers_between : (first last : ℕ) → ℕ
registers_between first last = (last + 16 - first) % 16 + 1

-- ---- vector rows (chapters 21 and 22)

-- the value of the vector register in a field
abbrev pub vector_field : Fields → Registers → ℕ → ℕ
vector_field f r i = r.vector (register_field f i)

-- the element size that the first mask tells
abbrev pub element_size : Fields → ElementSize
element_size f = size_of_code (mask_field f 0)

-- all bits of a vector register
abbrev pub all_bits : ℕ
all_bits = 2 ^ 128 - 1

-- the bits of its leftmost element
abbrev pub left_bits : ElementSize → ℕ
left_bits size = 2 ^ 128 - 2 ^ (128 - element_bits size)

-- what a row on vector registers does. Each row that is fetched as one of these has an operation
abbrev pub on_elements : Option VectorOperation → (target first second third fourth : ℕ) → Action
on_elements None target first second third fourth = performs Kept (Effect.PutVector target 0 0)
on_elements (Some operation) target first second third fourth = performs Set (Effect.ComputeVector operation target first second third fourth)

-- where an operand lies in memory and how, by the first mask
abbrev pub vector_layout_of : VectorStorage → Fields → VectorLayout
vector_layout_of Whole f = VectorLayout.Whole
vector_layout_of ReversedBytes f = VectorLayout.ReversedBytes (element_size f)
vector_layout_of ReversedElements f = VectorLayout.ReversedElements (element_size f)
vector_layout_of (Replicated backwards) f = VectorLayout.Replicated (element_size f) backwards
vector_layout_of (Element size backwards) f = VectorLayout.Element size (mask_field f 0) backwards

-- the leftmost element in memory
abbrev pub leftmost_layout : ElementSize → VectorLayout
leftmost_layout size = VectorLayout.Element size 0 false

-- an element gets a number; where there is no such element, the register may have any value
abbrev pub inserts_element : ElementSize → (target old index x : ℕ) → Action
inserts_element size target old index x =
    if nat_lt index (lane_count size) then performs Kept (Effect.PutVector target all_bits (register_after_load (VectorLayout.Element size index false) old (x % 2 ^ element_bits size)))
    else performs Kept (Effect.PutVector target 0 0)

-- a general register gets a value
abbrev pub moves_value : Fields → Registers → ℕ → Action
moves_value f r x =
    performs Kept (Effect.Compute Move Doubleword (register_field f 0) (value_in Doubleword r (register_field f 0)) (record { source = Value x; width = Bits64; sign = Unsigned; reversed = false }))

-- a general register gets an element; where there is no such element, it may have any value
abbrev pub extracts_element : Fields → Registers → ElementSize → (index : ℕ) → Action
extracts_element f r size index =
    if nat_lt index (lane_count size) then moves_value f r (lane (element_bits size) (vector_field f r 2) index) else performs Kept (Effect.Havoc (register_field f 0))

-- what a row does, with these fields and registers, at an address
abbrev pub action : RowSemantics → Fields → Registers → ℕ → Action
action (Compute operator size s rule) f r address =
    performs rule (Effect.Compute operator size (register_field f 0) (value_in size r (first_register s.operand_source f)) (operand s f r address))
action (Compare sign size s) f r address = performs Set (Effect.Compare sign size (value_in size r (first_register s.operand_source f)) (operand s f r address))
action (MoveWhere size s) f r address =
    Perform (performed_where (is_selected (mask_field f 0) r.code) (record { effect = Effect.Compute Move size (register_field f 0) (value_in size r (register_field f 0)) (operand s f r address); rule = Kept }))
action CountOnes f r address =
    performs Set (Effect.Compute (count_operator (mask_field f 0)) Doubleword (register_field f 0) (r.general (register_field f 0)) (record { source = Value (r.general (register_field f 1)); width = Bits64; sign = Unsigned; reversed = false }))
action (RotateThen op rule) f r address = rotates op rule (register_field f 0) (mask_field f 0) (mask_field f 1) r (rotated_operand r (register_field f 1) (mask_field f 2))
action MultiplySigned f r address = performs Kept (Effect.MultiplyPair Signed (register_field f 0) (r.general (register_field f 1)) (r.general (register_field f 2)))
action MultiplyLogical f r address = performs Kept (Effect.MultiplyPair Unsigned (register_field f 0) (r.general (register_field f 0 + 1)) (r.general (register_field f 1)))
action (DivideSigned width) f r address = performs Kept (Effect.DividePair (register_field f 0) (r.general (register_field f 0 + 1)) (extended_bits Signed width Doubleword (r.general (register_field f 1))))
action (DivideLogical size) f r address =
    performs Kept (Effect.DivideLogicalPair size (register_field f 0) (value_in size r (register_field f 0)) (value_in size r (register_field f 0 + 1)) (value_in size r (register_field f 1)))
action (CompareAndTrap sign size) f r address = performs Kept (Effect.CompareAndTrap sign size (value_in size r (register_field f 0)) (value_in size r (register_field f 1)) (mask_field f 0))
action (CompareImmediateAndTrap sign size) f r address =
    performs Kept (Effect.CompareAndTrap sign size (value_in size r (register_field f 0)) (extended_bits sign Bits16 size (low Doubleword f.imm)) (mask_field f 0))
action FindLeftmostOne f r address = performs Set (Effect.FindLeftmostOne (register_field f 0) (r.general (register_field f 1)))
action Havoc f r address = performs Kept (Effect.Havoc (register_field f 0))
action BranchToRegister f r address =
    if register_field f 1 == 0 then performs Kept Effect.Nothing else Branch (register_field f 0) (r.general (register_field f 1))
action BranchRelative f r address = Branch (mask_field f 0) (relative_address f address)
action (Store s) f r address = performs Kept (Effect.Store s.width (in_byte_order s.reversed s.width (r.general (register_field f 0))) (source s.operand_source f r address))
action StoreByte f r address = performs Kept (Effect.Store Bits8 (mask_field f 0) (InMemory (address_by_base r (register_field f 0) f.disp)))
action (StoreImmediate width) f r address = performs Kept (Effect.Store width (low Doubleword f.imm) (InMemory (address_by_base r (register_field f 0) f.disp)))
action LoadMultiple f r address = performs Kept (Effect.LoadMultiple (register_field f 0) (registers_between (register_field f 0) (register_field f 1)) (address_by_base r (register_field f 2) f.disp))
action StoreMultiple f r address =
    performs Kept (Effect.StoreMultiple (values_from r (register_field f 0) 16) (registers_between (register_field f 0) (register_field f 1)) (address_by_base r (register_field f 2) f.disp))
action (LoadAndOperate operator size) f r address =
    performs Set (Effect.LoadAndOperate operator size (register_field f 0) (value_in size r (register_field f 1)) (address_by_base r (register_field f 2) f.disp))
action (CompareAndSwap size) f r address =
    performs Set (Effect.CompareAndSwap size (register_field f 0) (value_in size r (register_field f 0)) (value_in size r (register_field f 1)) (address_by_base r (register_field f 2) f.disp))
action BranchAndSaveToRegister f r address = BranchAndSave (register_field f 0) (if register_field f 1 == 0 then wrapping_add64 address 2 else r.general (register_field f 1))
action BranchAndSaveRelative f r address = BranchAndSave (register_field f 0) (relative_address f address)
action (Elements row) f r address =
    on_elements (operation_of row f.masks f.imm) (register_field f 0) (vector_field f r 0) (vector_field f r 1) (vector_field f r 2) (vector_field f r 3)
action (ShiftElements row) f r address =
    on_elements (operation_of row f.masks (pos (address_by_base r (register_field f 1) f.disp % 64))) (register_field f 0) (vector_field f r 0) (vector_field f r 2) 0 0
action (LoadVector storage) f r address =
    performs Kept (Effect.LoadVector (vector_layout_of storage f) (register_field f 0) (vector_field f r 0) all_bits (indexed_address f r))
action (StoreVector storage) f r address = performs Kept (Effect.StoreVector (vector_layout_of storage f) (vector_field f r 0) (indexed_address f r))
action (LoadLeft size) f r address =
    performs Kept (Effect.LoadVector (leftmost_layout size) (register_field f 0) (vector_field f r 0) (left_bits size) (indexed_address f r))
action (StoreLeft size) f r address = performs Kept (Effect.StoreVector (leftmost_layout size) (vector_field f r 0) (indexed_address f r))
action (MoveLeft size) f r address = performs Kept (Effect.PutVector (register_field f 0) (left_bits size) (vector_field f r 1))
action RegisterToLeft f r address =
    performs Kept (Effect.PutVector (register_field f 0) (left_bits ElementSize.Doubleword) (r.general (register_field f 1) * 2 ^ 64))
action LeftToRegister f r address = moves_value f r (lane 64 (vector_field f r 1) 0)
action JoinRegisters f r address =
    performs Kept (Effect.PutVector (register_field f 0) all_bits (r.general (register_field f 1) * 2 ^ 64 + r.general (register_field f 2)))
action InsertElement f r address =
    inserts_element (element_size f) (register_field f 0) (vector_field f r 0) (address_by_base r (register_field f 1) f.disp) (r.general (register_field f 2))
action ExtractElement f r address = extracts_element f r (element_size f) (address_by_base r (register_field f 1) f.disp)

-- the row's r1 is the first of an even-odd pair: an odd one stops (chapter 7)
abbrev pub names_pair : RowSemantics → Bool
names_pair MultiplySigned = true
names_pair MultiplyLogical = true
names_pair (DivideSigned width) = true
names_pair (DivideLogical size) = true
names_pair FindLeftmostOne = true
names_pair _ = false

-- an odd register where the row names a pair
abbrev pub is_odd_pair : RowSemantics → Fields → Bool
is_odd_pair semantics f = names_pair semantics && (register_field f 0 % 2 == 1)

-- the semantics that a list has for an opcode
unfoldable pub semantics_in : List MachineRow → ℕ → Option RowSemantics
semantics_in [] opcode = None
semantics_in (row ∷ rows) opcode = if row.opcode == opcode then Some row.semantics else semantics_in rows opcode

-- the semantics of an opcode; none of one that no row has
unfoldable pub semantics_of : ℕ → Option RowSemantics
semantics_of opcode = semantics_in MACHINE_ROWS opcode
