-- What the machine's step needs of an operation so that registers can hold its results: numbers of registers that there are, and values of its size.
-- Each row gives it (`are_performed`).
use Rattle.std.specs.Prelude.{◌≡◌, ℕ, suc, ◌+◌, ◌==◌, ◌||◌, not, ℤ, pos, ◌*◌, ◌%◌, ◌^◌, ◌<◌, ◌≤◌, Bool, true, false, ◌&&◌, nat_le, nat_lt, List, [], ◌∷◌, Option, Some, None, IsTrue}
use Rattle.s390x_format.specs.declared.fields.Fields.{Fields}
use Rattle.s390x_format.specs.declared.kind.FormatKind.{FormatKind}
use Rattle.s390x_format.specs.declared.fields.Imm.{Imm}
use Rattle.s390x_format.specs.declared.fields.Imm.TheVariants.{Unsigned}
use Rattle.s390x_format.specs.declared.row.MachineRow.{MachineRow}
use Rattle.s390x_format.specs.View.{imm_class_of}
use Rattle.s390x_format.specs.Formats.{layout_of}
use Rattle.s390x_format.specs.Layout.{width_of_part}
use Rattle.s390x_operations.specs.Numbers.{modulus, low}
use Rattle.s390x_operations.specs.Bits.{bits_of_width, IsWithin}
use Rattle.s390x_operations.specs.State.{Registers, Core, set_general, set_vector, number_at, reaches}
use Rattle.s390x_operations.specs.Effects.{results}
use Rattle.s390x_operations.specs.Vectors.{layout_bytes, register_after_load}
use Rattle.s390x_lanes.specs.Results.{vector_result}
use Rattle.s390x_lanes.specs.Rows.{is_operation, is_computed, operation_of}
use Rattle.s390x_lanes.specs.declared.operators.VectorOperation.{VectorOperation}
use Rattle.s390x_format.specs.declared.row.Allowed.{Allowed}
use Rattle.s390x_format.specs.declared.row.Allowed.TheVariants.{FirstMask}
use Rattle.s390x_machine.specs.Operands.{address_by_base}
use Rattle.s390x_operations.specs.Access.{Access, Untouched, Reads, Stores, Locks}
use Rattle.s390x_operations.specs.declared.size.Size.{Size}
use Rattle.s390x_operations.specs.declared.size.Size.TheVariants.{Halfword, Word, Doubleword}
use Rattle.s390x_operations.specs.declared.size.Width.{Width}
use Rattle.s390x_operations.specs.declared.effect.Effect.{Effect}
use Rattle.s390x_machine.specs.Semantics.{register_field, mask_field, names_pair, semantics_of}
use Rattle.s390x_format.specs.declared.semantics.OperandSource.{OperandSource}
use Rattle.s390x_format.specs.declared.semantics.OperandSource.TheVariants.{ShiftedImmediate}
use Rattle.s390x_format.specs.declared.semantics.SecondOperand.{SecondOperand}
use Rattle.s390x_format.specs.declared.semantics.RowSemantics.{RowSemantics}
use Rattle.s390x_format.specs.declared.semantics.RowSemantics.TheVariants as Row
use Rattle.s390x_machine.specs.declared.action_type.Action.{Action}
use Rattle.s390x_machine.specs.declared.action_type.Action.TheVariants.{Perform, Branch, BranchAndSave}

-- the bytes of an access are accessible
abbrev pub is_reached : Access → (ℕ → Bool) → Bool
is_reached Untouched has = true
is_reached (Reads aligned a n) has = reaches has a n
is_reached (Stores aligned a n v) has = reaches has a n
is_reached (Locks a n change) has = reaches has a n

-- its registers are there, its values have its size, and an operation on vectors is one whose result is computed
abbrev pub IsSound : Effect → Type 0
IsSound Effect.Nothing = Unit {0}
IsSound (Effect.Compute operator size target first second) = (target < 16) × (first < modulus size) × IsWithin second.width size
IsSound (Effect.Test operator size first second) = (first < modulus size) × IsWithin second.width size
IsSound (Effect.Compare sign size first second) = (first < modulus size) × IsWithin second.width size
IsSound (Effect.CompareAndTrap sign size first second mask) = (first < modulus size) × (second < modulus size)
IsSound (Effect.MultiplyPair sign pair first second) = pair < 15
IsSound (Effect.DividePair pair dividend divisor) = pair < 15
IsSound (Effect.DivideLogicalPair size pair high low divisor) = (pair < 15) × (high < modulus size) × (low < modulus size) × (divisor < modulus size)
IsSound (Effect.FindLeftmostOne pair value) = pair < 15
IsSound (Effect.Store width value destination) = Unit {0}
IsSound (Effect.LoadAndOperate operator size target second address) = (target < 16) × (second < modulus size)
IsSound (Effect.CompareAndSwap size target expected replacement address) = target < 16
IsSound (Effect.LoadMultiple first_register count address) = (first_register < 16) × (count ≤ 16)
IsSound (Effect.StoreMultiple values count address) = count ≤ 16
IsSound (Effect.Havoc target) = target < 16
IsSound (Effect.ComputeVector operation target first second third fourth) = (target < 32) × IsTrue (is_operation operation) × IsTrue (is_computed operation)
IsSound (Effect.PutVector target known value) = (target < 32) × (value < 2 ^ 128)
IsSound (Effect.LoadVector layout target old known address) = target < 32
IsSound (Effect.StoreVector layout value address) = Unit {0}

-- the registers that the step gives, of those that an effect allows: where it may choose, a general register gets 0, and the bits that
-- aren't known are those of the value
abbrev pub outcome : Effect → Core → Registers
outcome (Effect.Havoc target) c = set_general c.registers target 0
outcome (Effect.ComputeVector operation target first second third fourth) c = set_vector c.registers target (vector_result operation first second third fourth)
outcome (Effect.PutVector target known value) c = set_vector c.registers target value
outcome (Effect.LoadVector layout target old known address) c = set_vector c.registers target (register_after_load layout old (number_at c.memory.get address (layout_bytes layout)))
outcome effect c = results effect c

-- a vector register can hold it
abbrev pub HasOutcome : Effect → Core → Type 0
HasOutcome (Effect.ComputeVector operation target first second third fourth) c = vector_result operation first second third fourth < 2 ^ 128
HasOutcome (Effect.LoadVector layout target old known address) c = register_after_load layout old (number_at c.memory.get address (layout_bytes layout)) < 2 ^ 128
HasOutcome _ c = Unit {0}

-- what a row does is sound; a branch that saves has a register for it
abbrev pub IsSoundAction : Action → Type 0
IsSoundAction (Perform op) = IsSound op.effect
IsSoundAction (Branch mask target) = Unit {0}
IsSoundAction (BranchAndSave link target) = link < 16

-- the numbers of registers are those of general registers
abbrev pub AreGeneral : Fields → Type 0
AreGeneral f = (i : ℕ) → register_field f i < 16

-- this field names a vector register, of which there are 32
abbrev pub is_vector_field : RowSemantics → ℕ → Bool
is_vector_field (Row.Elements row) i = true
is_vector_field (Row.ShiftElements row) i = (i == 0) || (i == 2)
is_vector_field (Row.LoadVector storage) i = i == 0
is_vector_field (Row.StoreVector storage) i = i == 0
is_vector_field (Row.LoadLeft size) i = i == 0
is_vector_field (Row.StoreLeft size) i = i == 0
is_vector_field (Row.MoveLeft size) i = (i == 0) || (i == 1)
is_vector_field Row.RegisterToLeft i = i == 0
is_vector_field Row.LeftToRegister i = i == 1
is_vector_field Row.JoinRegisters i = i == 0
is_vector_field Row.InsertElement i = i == 0
is_vector_field Row.ExtractElement i = i == 2
is_vector_field _ i = false

-- how many registers there are of the kind that a field names
abbrev pub register_bound : Bool → ℕ
register_bound true = 32
register_bound false = 16

-- the numbers of registers are those of registers of their kind
abbrev pub HasRegisters : RowSemantics → Fields → Type 0
HasRegisters semantics f = (i : ℕ) → register_field f i < register_bound (is_vector_field semantics i)

-- a pair that the row names begins at an even register
abbrev pub IsPaired : RowSemantics → Fields → Type 0
IsPaired semantics f = IsTrue (names_pair semantics) → register_field f 0 % 2 ≡ 0

-- the widths of a row's operands don't exceed its size
abbrev pub IsMeant : RowSemantics → Type 0
IsMeant (Row.Compute operator size second rule) = IsWithin second.width size
IsMeant (Row.Compare sign size second) = IsWithin second.width size
IsMeant (Row.MoveWhere size second) = IsWithin second.width size
IsMeant _ = Unit {0}

-- an immediate still has 64 bits further to the left
abbrev pub ShiftFits : OperandSource → Fields → Type 0
ShiftFits (ShiftedImmediate n) f = (n < 64) × (low Doubleword f.imm * 2 ^ n < 2 ^ 64)
ShiftFits _ f = Unit {0}

-- a row's second operand, where it is an immediate, still has 64 bits further to the left
abbrev pub IsRoomy : RowSemantics → Fields → Type 0
IsRoomy (Row.Compute operator size second rule) f = ShiftFits second.operand_source f
IsRoomy (Row.Compare sign size second) f = ShiftFits second.operand_source f
IsRoomy (Row.MoveWhere size second) f = ShiftFits second.operand_source f
IsRoomy (Row.Store destination) f = ShiftFits destination.operand_source f
IsRoomy _ f = Unit {0}

-- an element that goes to a general register has at most 64 bits
abbrev pub HasElement : RowSemantics → Fields → Type 0
HasElement Row.ExtractElement f = mask_field f 0 ≤ 3
HasElement _ f = Unit {0}

-- all of it, but for the pair
pub record CanPerform (semantics : RowSemantics) (f : Fields) : Type 0 where
  pub meant : IsMeant semantics
  pub registers : HasRegisters semantics f
  pub room : IsRoomy semantics f
  pub element : HasElement semantics f

-- the step can perform what a row means with these fields
pub record FieldsFit (semantics : RowSemantics) (f : Fields) : Type 0 where
  pub can : CanPerform semantics f
  pub paired : IsPaired semantics f

-- an operation on vectors whose result isn't computed
abbrev pub is_uncomputed : Option VectorOperation → Bool
is_uncomputed None = false
is_uncomputed (Some operation) = not (is_computed operation)

-- the amount of an element shift
abbrev pub shift_amount : Fields → Registers → ℤ
shift_amount f r = pos (address_by_base r (register_field f 1) f.disp % 64)

-- the row's result is free, or a high product of 128-bit elements: the step gives none
abbrev pub is_free : RowSemantics → Fields → Registers → Bool
is_free Row.Havoc f r = true
is_free (Row.Elements row) f r = is_uncomputed (operation_of row f.masks f.imm)
is_free (Row.ShiftElements row) f r = is_uncomputed (operation_of row f.masks (shift_amount f r))
is_free _ f r = false

-- ---- tests of a row, which the table of machine rows meets

-- the size has as many bits as the width or more
abbrev pub is_no_wider : Width → Size → Bool
is_no_wider width Halfword = nat_le (bits_of_width width) 16
is_no_wider width Word = nat_le (bits_of_width width) 32
is_no_wider width Doubleword = true

-- the bits of an immediate are read without a sign
abbrev pub is_unsigned : Imm → Bool
is_unsigned Unsigned = true
is_unsigned _ = false

-- an immediate of the format, so many bits further to the left, has at most 64 bits
abbrev pub has_room : OperandSource → FormatKind → Bool
has_room (ShiftedImmediate n) format = nat_lt n 64 && nat_le (n + width_of_part 8 (layout_of format)) 64 && is_unsigned (imm_class_of format)
has_room _ format = true

-- the second operand has room in the format, and its width doesn't exceed the size
abbrev pub fits_operand : SecondOperand → Size → FormatKind → Bool
fits_operand second size format = is_no_wider second.width size && has_room second.operand_source format

-- the row's second operand fits
abbrev pub is_meant : RowSemantics → FormatKind → Bool
is_meant (Row.Compute operator size second rule) format = fits_operand second size format
is_meant (Row.Compare sign size second) format = fits_operand second size format
is_meant (Row.MoveWhere size second) format = fits_operand second size format
is_meant (Row.Store destination) format = has_room destination.operand_source format
is_meant _ format = true

-- the first mask is at most 3
abbrev pub is_small : Allowed → Bool
is_small (FirstMask low high) = nat_le high 3
is_small _ = false

-- the row allows no element of 128 bits where one goes to a general register
abbrev pub has_element : RowSemantics → Allowed → Bool
has_element Row.ExtractElement allowed = is_small allowed
has_element _ allowed = true

-- the bits of a register's number of the kind that a field names
abbrev pub register_bits : Bool → ℕ
register_bits true = 5
register_bits false = 4

-- field i of the format has no more bits than the number of a register of its kind
abbrev pub fits_field : RowSemantics → FormatKind → ℕ → Bool
fits_field semantics format i = nat_le (width_of_part (suc i) (layout_of format)) (register_bits (is_vector_field semantics i))

-- each of the four fields of the format has no more bits than the number of a register of its kind
abbrev pub has_registers : RowSemantics → FormatKind → Bool
has_registers semantics format = fits_field semantics format 0 && fits_field semantics format 1 && fits_field semantics format 2 && fits_field semantics format 3

-- the step can perform what a row means, and each row means something
abbrev pub is_performed : Option RowSemantics → FormatKind → Allowed → Bool
is_performed None format allowed = false
is_performed (Some semantics) format allowed = is_meant semantics format && has_registers semantics format && has_element semantics allowed

-- the step can perform each row
unfoldable pub are_performed : List MachineRow → Bool
are_performed [] = true
are_performed (row ∷ rows) = is_performed (semantics_of row.opcode) row.format row.allowed && are_performed rows
