-- The state of the machine (Principles of Operation, chapters 2 to 4), and what others write.
-- A state's parts are functions, so that writes by others and changes of registers commute by computation. The ranges are `IsState`.
use Rattle.std.specs.Prelude.{Option, Some, None, ◌≡◌, ℕ, zero, suc, ◌+◌, ◌-◌, ◌*◌, ◌/◌, ◌%◌, ◌^◌, ◌<◌, List, [], ◌∷◌, length, Bool, true, false, if◌then◌else◌, ◌==◌, nat_lt, nat_le, ◌&&◌, ◌||◌, slice_index, IsTrue, IsFalse}
use Rattle.s390x_operations.specs.declared.stop.ConditionCode.{ConditionCode}

-- what the registers hold, by their numbers, and the condition code
pub record Registers : Type 0 where
  pub general : ℕ → ℕ
  pub vector : ℕ → ℕ
  pub access : ℕ → ℕ
  pub code : ConditionCode

-- the accessible addresses, and the bytes there
pub record Memory : Type 0 where
  pub has : ℕ → Bool
  pub get : ℕ → ℕ

-- all of a state but the address
pub record Core : Type 0 where
  pub registers : Registers
  pub memory : Memory

-- a state's address is the instruction address of the program status word
pub record State : Type 0 where
  pub core : Core
  pub address : ℕ

-- 16 general values of 64 bits, 32 vector values of 128, 16 access values of 32, bytes, and an address of 64 bits
pub record IsState (s : State) : Type 0 where
  pub general : (i : ℕ) → i < 16 → s.core.registers.general i < 2 ^ 64
  pub vector : (i : ℕ) → i < 32 → s.core.registers.vector i < 2 ^ 128
  pub access : (i : ℕ) → i < 16 → s.core.registers.access i < 2 ^ 32
  pub bytes : (a : ℕ) → s.core.memory.get a < 256
  pub addresses : (a : ℕ) → IsTrue (s.core.memory.has a) → a < 2 ^ 64
  pub address : s.address < 2 ^ 64

-- the values with another one at number i
abbrev pub update : (ℕ → ℕ) → ℕ → ℕ → ℕ → ℕ
update f i v k = if k == i then v else f k

-- the condition code becomes this one
abbrev pub with_code : ConditionCode → Registers → Registers
with_code code r = record r { code = code }

-- a general register gets a value
abbrev pub set_general : Registers → ℕ → ℕ → Registers
set_general r i v = record r { general = update r.general i v }

-- a vector register gets a value
abbrev pub set_vector : Registers → ℕ → ℕ → Registers
set_vector r i v = record r { vector = update r.vector i v }

-- addresses are counted modulo 2 ^ 64
abbrev pub wrapping_add64 : ℕ → ℕ → ℕ
wrapping_add64 a b = (a + b) % 2 ^ 64

-- one byte, written by another processor
pub record Write : Type 0 where
  pub address : ℕ
  pub byte : ℕ

-- the bytes after the writes, in order
abbrev pub write_get : List Write → (ℕ → ℕ) → ℕ → ℕ
write_get [] f = f
write_get (w ∷ ws) f = write_get ws (update f w.address w.byte)

-- the core after others' writes
abbrev pub core_after_writes : List Write → Core → Core
core_after_writes ws c = record {
  registers = c.registers;
  memory = record { has = c.memory.has; get = write_get ws c.memory.get };
}

-- the number in n bytes from a, the most significant first
abbrev pub number_at : (ℕ → ℕ) → ℕ → ℕ → ℕ
number_at f a zero = 0
number_at f a (suc n) = number_at f a n * 256 + f (wrapping_add64 a n)

-- the n bytes from number i on, counted from a
abbrev pub bytes_from : (ℕ → ℕ) → ℕ → ℕ → ℕ → List ℕ
bytes_from f a i zero = []
bytes_from f a i (suc n) = f (wrapping_add64 a i) ∷ bytes_from f a (suc i) n

-- the n bytes from a
abbrev pub bytes_at : (ℕ → ℕ) → ℕ → ℕ → List ℕ
bytes_at f a n = bytes_from f a 0 n

-- what an instruction stores: the low bytes of a number, from an address on
pub record StoreEvent : Type 0 where
  pub address : ℕ
  pub size : ℕ
  pub value : ℕ

-- the bytes of a number of n bytes from a, the least significant first
abbrev pub bytes_to : ℕ → ℕ → ℕ → List Write
bytes_to a zero v = []
bytes_to a (suc n) v = record { address = wrapping_add64 a n; byte = v % 256 } ∷ bytes_to a n (v / 256)

-- a store as writes: what the other processors see of it
abbrev pub writes_of : Option StoreEvent → List Write
writes_of None = []
writes_of (Some x) = bytes_to x.address x.size x.value

-- the memory after a store
abbrev pub after_store : Option StoreEvent → Memory → Memory
after_store x m = record { has = m.has; get = write_get (writes_of x) m.get }

-- n bytes from a are accessible
abbrev pub reaches : (ℕ → Bool) → ℕ → ℕ → Bool
reaches has a zero = true
reaches has a (suc n) = has (wrapping_add64 a n) && reaches has a n

-- code and constants at their address
pub record CodeImage : Type 0 where
  pub base : ℕ
  pub bytes : List ℕ

-- this address is one of the image's
abbrev pub is_within : CodeImage → ℕ → Bool
is_within image a = nat_le image.base a && nat_lt a (image.base + length image.bytes)

-- one of n bytes from a is a byte of the image
abbrev pub overlaps : CodeImage → ℕ → ℕ → Bool
overlaps image a zero = false
overlaps image a (suc n) = is_within image (wrapping_add64 a n) || overlaps image a n

-- the image lies in memory at its base
pub record IsLoaded (image : CodeImage) (m : Memory) : Type 0 where
  pub has : (a : ℕ) → IsTrue (is_within image a) → IsTrue (m.has a)
  pub get : (a : ℕ) → IsTrue (is_within image a) → m.get a ≡ slice_index image.bytes (a - image.base)

-- others write bytes to accessible addresses outside the image
abbrev pub MayWrite : CodeImage → (ℕ → Bool) → List Write → Type 0
MayWrite image has [] = Unit {0}
MayWrite image has (w ∷ ws) = IsTrue (has w.address) × IsFalse (is_within image w.address) × (w.byte < 256) × MayWrite image has ws

-- what is stored has no byte of the image
abbrev pub IsDisjoint : CodeImage → Option StoreEvent → Type 0
IsDisjoint image None = Unit {0}
IsDisjoint image (Some x) = IsFalse (overlaps image x.address x.size)
