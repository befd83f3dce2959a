-- What instructions do, as one relation from the values in an operation to the allowed outcomes (Principles of Operation, chapter 7,
-- "General instructions"; of vectors chapters 21 and 22).
-- Both the machine's instructions and the typed ones are mapped to operations, so both have this meaning.
use Rattle.std.specs.Prelude.{◌≡◌, ℕ, zero, suc, ◌+◌, ◌*◌, ◌/◌, ◌%◌, ◌^◌, ◌<◌, ◌⊎◌, Bool, true, false, ◌==◌, if◌then◌else◌, bit_and, Option, Some, None, IsTrue, List, slice_index}
use Rattle.s390x_base.specs.Conditions.{selects}
use Rattle.s390x_lanes.specs.Relation.{Gives, code_of as vector_code_of, divides_by_zero, division_overflows}
use Rattle.s390x_operations.specs.Numbers.{modulus, signed_number}
use Rattle.s390x_operations.specs.Unsigned.{compare_code, wide_product, signed_division, unsigned_division}
use Rattle.s390x_operations.specs.Bits.{bytes, leftmost}
use Rattle.s390x_operations.specs.State.{Registers, Memory, Core, set_general, set_vector, with_code, number_at, wrapping_add64, after_store}
use Rattle.s390x_operations.specs.Values.{value, code_of_value, operand_value, width_of}
use Rattle.s390x_operations.specs.Vectors.{layout_bytes, register_after_load, vector_stored}
use Rattle.s390x_operations.specs.Access.{Access, Untouched, Reads, Stores, Locks, Swaps, Operates, fault, store_event}
use Rattle.s390x_operations.specs.declared.size.Size.{Size}
use Rattle.s390x_operations.specs.declared.size.Size.TheVariants.{Halfword, Word, Doubleword}
use Rattle.s390x_operations.specs.declared.stop.ConditionCode.{ConditionCode}
use Rattle.s390x_operations.specs.declared.stop.ConditionCode.TheVariants.{Code0, Code1, Code2, Code3}
use Rattle.s390x_operations.specs.declared.stop.StopKind.{StopKind}
use Rattle.s390x_operations.specs.declared.stop.StopKind.TheVariants.{Divide as DivideStop, CompareTrap}
use Rattle.s390x_operations.specs.declared.operand.Source.{Source}
use Rattle.s390x_operations.specs.declared.operand.Source.TheVariants.{Value, Memory as InMemory, AlignedMemory}
use Rattle.s390x_operations.specs.declared.operand.Pair.{Pair}
use Rattle.s390x_operations.specs.declared.effect.Effect.{Effect}
use Rattle.s390x_operations.specs.declared.effect.Effect.TheVariants.{Compute, Test, Compare, CompareAndTrap, MultiplyPair, DividePair, DivideLogicalPair, FindLeftmostOne, Store, LoadAndOperate, CompareAndSwap, LoadMultiple, StoreMultiple, Havoc, ComputeVector, PutVector, LoadVector, StoreVector}
use Rattle.s390x_operations.specs.declared.effect.CodeRule.{CodeRule}
use Rattle.s390x_operations.specs.declared.effect.CodeRule.TheVariants.{Kept, Set, Unspecified}
use Rattle.s390x_operations.specs.declared.effect.Operation.{Operation}

-- ---- condition codes as numbers

-- the number of a condition code
abbrev pub number_of_code : ConditionCode → ℕ
number_of_code Code0 = 0
number_of_code Code1 = 1
number_of_code Code2 = 2
number_of_code Code3 = 3

-- the condition code of a number; one above 3 counts as 3
abbrev pub code_numbered : ℕ → ConditionCode
code_numbered zero = Code0
code_numbered (suc zero) = Code1
code_numbered (suc (suc zero)) = Code2
code_numbered (suc (suc (suc n))) = Code3

-- the mask has the condition code's bit, the leftmost one for code 0
abbrev pub is_selected : ℕ → ConditionCode → Bool
is_selected mask code = selects mask (number_of_code code)

-- ---- accesses

-- the read of an operand of so many bytes; none where it isn't in memory
abbrev pub source_access : Source → ℕ → Access
source_access (Value x) size = Untouched
source_access (InMemory a) size = Reads false a size
source_access (AlignedMemory a) size = Reads true a size

-- the store of so many bytes of a number; none where the destination isn't in memory
abbrev pub store_access : Source → ℕ → ℕ → Access
store_access (Value x) size stored = Untouched
store_access (InMemory a) size stored = Stores false a size stored
store_access (AlignedMemory a) size stored = Stores true a size stored

-- the number that n of the values make as doublewords one after another
abbrev pub joined_doublewords : List ℕ → ℕ → ℕ
joined_doublewords values zero = 0
joined_doublewords values (suc n) = joined_doublewords values n * 2 ^ 64 + slice_index values n

-- the data access of an effect
abbrev pub access : Effect → Access
access (Compute operator size target first second) = source_access second.source (bytes second.width)
access (Test operator size first second) = source_access second.source (bytes second.width)
access (Compare sign size first second) = source_access second.source (bytes second.width)
access (Store width stored destination) = store_access destination (bytes width) stored
access (LoadAndOperate operator size target second address) = Locks address (bytes (width_of size)) (Operates operator size second)
access (CompareAndSwap size target expected replacement address) = Locks address (bytes (width_of size)) (Swaps expected replacement)
access (LoadMultiple first_register count address) = Reads false address (8 * count)
access (StoreMultiple values count address) = Stores false address (8 * count) (joined_doublewords values count)
access (LoadVector layout target old known address) = Reads false address (layout_bytes layout)
access (StoreVector layout stored address) = Stores false address (layout_bytes layout) (vector_stored layout stored)
access _ = Untouched

-- ---- stops by values

-- a division without a result stops
abbrev pub divide_stop : Option Pair → Option StopKind
divide_stop None = Some DivideStop
divide_stop (Some p) = None

-- the stop that the values bring about
abbrev pub stop_of_effect : Effect → Option StopKind
stop_of_effect (CompareAndTrap sign size first second mask) = if is_selected mask (compare_code sign size first second) then Some CompareTrap else None
stop_of_effect (DividePair pair dividend divisor) = divide_stop (signed_division (signed_number Doubleword dividend) (signed_number Doubleword divisor))
stop_of_effect (DivideLogicalPair size pair high low divisor) = divide_stop (unsigned_division size (high * modulus size + low) divisor)
stop_of_effect (ComputeVector operation target first second third fourth) = if divides_by_zero operation third then Some DivideStop else None
stop_of_effect _ = None

-- a stop that the values allow and don't bring about: a lane's quotient that doesn't fit
abbrev pub MayRefuse : Effect → StopKind → Type 0
MayRefuse (ComputeVector operation target first second third fourth) kind = (kind ≡ DivideStop) × IsTrue (division_overflows operation second third)
MayRefuse _ kind = ⊥

-- ---- results

-- a part of a register leaves the other bits
abbrev pub with_low_part : Size → ℕ → ℕ → ℕ
with_low_part Halfword old x = old / 2 ^ 16 * 2 ^ 16 + x
with_low_part Word old x = old / 2 ^ 32 * 2 ^ 32 + x
with_low_part Doubleword old x = x

-- a general register gets a value of a size
abbrev pub set_sized : Size → Registers → ℕ → ℕ → Registers
set_sized size r target x = set_general r target (with_low_part size (r.general target) x)

-- an even-odd pair gets its two values
abbrev pub set_pair : Size → Registers → ℕ → Pair → Registers
set_pair size r pair p = set_sized size (set_sized size r pair p.high) (pair + 1) p.low

-- an even-odd pair gets the result of a division, if there is one
abbrev pub set_divided : Size → Registers → ℕ → Option Pair → Registers
set_divided size r pair None = r
set_divided size r pair (Some p) = set_pair size r pair p

-- so many registers from one on, register 0 after 15, get doublewords
abbrev pub set_multiple : Registers → (ℕ → ℕ) → ℕ → ℕ → ℕ → Registers
set_multiple r f first address zero = r
set_multiple r f first address (suc n) = set_general (set_multiple r f first address n) ((first + n) % 16) (number_at f (wrapping_add64 address (8 * n)) 8)

-- the number that a sized access finds
abbrev pub number_in_memory : Size → Memory → ℕ → ℕ
number_in_memory size m address = number_at m.get address (bytes (width_of size))

-- the registers after it, but for the condition code, where nothing is free
abbrev pub results : Effect → Core → Registers
results (Compute operator size target first second) c = set_sized size c.registers target (value operator size first (operand_value size second c.memory))
results (MultiplyPair sign pair first second) c = set_pair Doubleword c.registers pair (wide_product sign first second)
results (DividePair pair dividend divisor) c = set_divided Doubleword c.registers pair (signed_division (signed_number Doubleword dividend) (signed_number Doubleword divisor))
results (DivideLogicalPair size pair high low divisor) c = set_divided size c.registers pair (unsigned_division size (high * modulus size + low) divisor)
results (FindLeftmostOne pair x) c = set_pair Doubleword c.registers pair (leftmost x)
results (LoadAndOperate operator size target second address) c = set_sized size c.registers target (number_in_memory size c.memory address)
results (CompareAndSwap size target expected replacement address) c = set_sized size c.registers target (number_in_memory size c.memory address)
results (LoadMultiple first_register count address) c = set_multiple c.registers c.memory.get first_register address count
results _ c = c.registers

-- these are the registers after it, but for the condition code
abbrev pub Results : Effect → Core → Registers → Type 0
Results (Havoc target) c r = (x : ℕ) × (x < 2 ^ 64) × (r ≡ with_code r.code (set_general c.registers target x))
Results (ComputeVector operation target first second third fourth) c r =
    (x : ℕ) × Gives operation first second third fourth x (vector_code_of operation first second third) × (r ≡ with_code r.code (set_vector c.registers target x))
Results (PutVector target known x) c r = (y : ℕ) × (y < 2 ^ 128) × (bit_and y known ≡ bit_and x known) × (r ≡ with_code r.code (set_vector c.registers target y))
Results (LoadVector layout target old known address) c r =
    (y : ℕ) × (y < 2 ^ 128) × (bit_and y known ≡ bit_and (register_after_load layout old (number_at c.memory.get address (layout_bytes layout))) known) × (r ≡ with_code r.code (set_vector c.registers target y))
Results effect c r = r ≡ with_code r.code (results effect c)

-- ---- condition codes

-- the code that stands, where an operation sets none
abbrev pub vector_code : ConditionCode → Option ℕ → ConditionCode
vector_code code None = code
vector_code code (Some n) = code_numbered n

-- the condition code of an effect
abbrev pub effect_code : Effect → Core → ConditionCode
effect_code (Compute operator size target first second) c = code_of_value operator size first (operand_value size second c.memory)
effect_code (Test operator size first second) c = code_of_value operator size first (operand_value size second c.memory)
effect_code (Compare sign size first second) c = compare_code sign size first (operand_value size second c.memory)
effect_code (FindLeftmostOne pair x) c = if x == 0 then Code0 else Code2
effect_code (LoadAndOperate operator size target second address) c = code_of_value operator size (number_in_memory size c.memory address) second
effect_code (CompareAndSwap size target expected replacement address) c = if number_in_memory size c.memory address == expected then Code0 else Code1
effect_code (ComputeVector operation target first second third fourth) c = vector_code c.registers.code (vector_code_of operation first second third)
effect_code _ c = c.registers.code

-- this may be the code after it, under a rule
abbrev pub CodeAfter : CodeRule → Effect → Core → ConditionCode → Type 0
CodeAfter Kept effect c code = code ≡ c.registers.code
CodeAfter Set effect c code = code ≡ effect_code effect c
CodeAfter Unspecified effect c code = Unit {0}

-- ---- operations

-- it may go from one core to the other
pub record MayExecute (op : Operation) (c t : Core) : Type 0 where
  pub reached : fault (access op.effect) c.memory.has ≡ None
  pub allowed : stop_of_effect op.effect ≡ None
  pub results : Results op.effect c t.registers
  pub code : CodeAfter op.rule op.effect c t.registers.code
  pub memory : t.memory ≡ after_store (store_event (access op.effect) c.memory) c.memory

-- it may stop: the access's fault comes first, then what the values bring about. The bytes in memory don't count
abbrev pub MayInterrupt : Operation → (ℕ → Bool) → StopKind → Type 0
MayInterrupt op has kind = (fault (access op.effect) has ≡ Some kind) ⊎ ((fault (access op.effect) has ≡ None) × ((stop_of_effect op.effect ≡ Some kind) ⊎ MayRefuse op.effect kind))

-- what the first operation does, the second allows: the same access and stops, and as free or freer results and codes
pub record Refines (m op : Operation) : Type 0 where
  pub access : access m.effect ≡ access op.effect
  pub refused : stop_of_effect m.effect ≡ stop_of_effect op.effect
  pub may_refuse : (kind : StopKind) → MayRefuse m.effect kind → MayRefuse op.effect kind
  pub results : (c : Core) (r : Registers) → Results m.effect c r → Results op.effect c r
  pub code : (c : Core) (code : ConditionCode) → CodeAfter m.rule m.effect c code → CodeAfter op.rule op.effect c code
