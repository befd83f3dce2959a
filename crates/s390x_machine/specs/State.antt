-- A machine of the program as a state.
use Rattle.std.specs.Prelude.{◌≡◌, ℕ, ◌<◌, Bool, IsTrue, List, length, slice_index}
use Rattle.s390x_operations.specs.State.{Registers, Memory, Core, State, wrapping_add64, reaches}
use Rattle.s390x_operations.specs.Effects.{code_numbered}
use Rattle.s390x_operations.specs.declared.stop.ConditionCode.TheVariants.{Code0}
use Rattle.s390x_machine.specs.declared.machine.Machine.{Machine}

-- a memory of these accessible addresses and bytes
abbrev pub memory_of : (ℕ → Bool) → (ℕ → ℕ) → Memory
memory_of held byte = record { has = held; get = byte }

-- what the registers of a machine hold, and its condition code
abbrev pub registers_of : Machine → Registers
registers_of m = record { general = λ i. slice_index m.regs i; vector = λ i. slice_index m.vregs i; access = λ i. slice_index m.aregs i; code = code_numbered m.cc }

-- all of a machine's state but the address, with a memory of these accessible addresses and bytes
abbrev pub core_of : Machine → (ℕ → Bool) → (ℕ → ℕ) → Core
core_of m held byte = record { registers = registers_of m; memory = memory_of held byte }

-- the state of a machine with a memory of these accessible addresses and bytes
abbrev pub state_of : Machine → (ℕ → Bool) → (ℕ → ℕ) → State
state_of m held byte = record { core = record { registers = registers_of m; memory = memory_of held byte }; address = m.place }

-- all zero
abbrev pub fresh_registers : Registers
fresh_registers = record { general = λ i. 0; vector = λ i. 0; access = λ i. 0; code = Code0 }

-- n bytes from an address on are accessible, and these begin with them
pub record AreBytes (has : ℕ → Bool) (get : ℕ → ℕ) (address n : ℕ) (bytes : List ℕ) : Type 0 where
  pub reached : IsTrue (reaches has address n)
  pub six : length bytes ≡ 6
  pub bytes_are : (i : ℕ) → i < n → slice_index bytes i ≡ get (wrapping_add64 address i)
