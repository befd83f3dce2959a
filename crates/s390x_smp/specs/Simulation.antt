-- Processors that add to one word, and how they start.
use Rattle.std.specs.Prelude.{◌≡◌, ℕ, ◌+◌, ◌*◌, ◌%◌, ◌^◌, ◌<◌, ◌==◌, ◌&&◌, ◌||◌, Bool, true, false, IsTrue, List, [], ◌∷◌, None, length, get_or, replicate}
use Rattle.s390x_operations.specs.State.{Memory, number_at, set_general}
use Rattle.s390x_machine.specs.State.{fresh_registers}
use Rattle.s390x_machine.specs.declared.machine.Machine.{Machine}
use Rattle.s390x_schedule.specs.Schedule.{Processor, World, processors_of, world_of}
use Rattle.s390x_smp.specs.Image.{HasImage, start_cause}

-- the machines over one memory, what each adds, and how many stores each has completed
pub record Simulation : Type 0 where
  pub base : ℕ
  pub word : ℕ
  pub addends : List ℕ
  pub machines : List Machine
  pub memory : Memory
  pub stores : List ℕ

-- its processors and their memory
abbrev pub world : Simulation → World
world s = world_of s.machines s.memory

-- the number in the word
abbrev pub word_of : Simulation → ℕ
word_of s = number_at s.memory.get s.word 4

-- the sum of the addends times the stores
abbrev pub total : (addends stores : List ℕ) → ℕ
total [] ns = 0
total (x ∷ xs) [] = 0
total (x ∷ xs) (n ∷ ns) = x * n + total xs ns

-- ---- the start

-- where the code of a processor begins: those of even number run the retry loop, the others the locked add
abbrev pub start_offset : Bool → ℕ
start_offset true = 0
start_offset false = 16

-- a processor at its beginning
abbrev pub start_processor : (base word p addend : ℕ) → Processor
start_processor base word p addend = record {
  registers = set_general (set_general (set_general fresh_registers 3 addend) 5 word) 14 (base + start_offset (p % 2 == 0));
  address = base + start_offset (p % 2 == 0);
}

-- there is one for each addend, each at its beginning
pub record AreStarted (base word : ℕ) (addends : List ℕ) (machines : List Machine) : Type 0 where
  pub count : length machines ≡ length addends
  pub each : (p : ℕ) → p < length addends → processors_of machines p ≡ start_processor base word p (get_or addends p 0)

-- the code and a word that is zero, the processors at their beginnings, and no store
pub record IsStart (base word : ℕ) (addends : List ℕ) (s : Simulation) : Type 0 where
  pub base_is : s.base ≡ base
  pub word_is : s.word ≡ word
  pub addends_are : s.addends ≡ addends
  pub machines : AreStarted base word addends s.machines
  pub image : HasImage base word s.memory
  pub zero : word_of s ≡ 0
  pub stores : s.stores ≡ replicate (length addends) 0

-- ---- at any time

-- at an instruction of the retry loop, or of the locked add; before the swap the sum is in `%r4`
abbrev pub is_placed : Bool → (base addend : ℕ) → Processor → Bool
is_placed true base addend x =
    (x.address == base)
    || (((x.address == base + 4) && (x.registers.general 4 % 2 ^ 32 == (x.registers.general 2 + addend) % 2 ^ 32))
    || ((x.address == base + 8) || (x.address == base + 14)))
is_placed false base addend x = (x.address == base + 16) || (x.address == base + 22)

-- a processor that adds: its addend, the word's address and its beginning are in their registers
pub record IsAdding (base word addend : ℕ) (even : Bool) (x : Processor) : Type 0 where
  pub addend_is : x.registers.general 3 ≡ addend
  pub word_is : x.registers.general 5 ≡ word
  pub link_is : x.registers.general 14 ≡ base + start_offset even
  pub at : IsTrue (is_placed even base addend x)

-- each processor adds, and the word is the sum of the addends times the stores
pub record IsSimulation (s : Simulation) : Type 0 where
  pub usable : start_cause s.base s.word ≡ None
  pub below : s.word < 2 ^ 64
  pub machines : length s.machines ≡ length s.addends
  pub stores : length s.stores ≡ length s.addends
  pub bounded : (p : ℕ) → get_or s.stores p 0 < 2 ^ 64
  pub each : (p : ℕ) → p < length s.addends → IsAdding s.base s.word (get_or s.addends p 0) (p % 2 == 0) (processors_of s.machines p)
  pub image : HasImage s.base s.word s.memory
  pub sum : word_of s ≡ total s.addends s.stores % 2 ^ 32
