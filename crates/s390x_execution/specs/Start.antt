-- The state in which a job's image starts: its registers and memory, with the image in memory (Principles of Operation, chapter 2, "CPU").
use Rattle.std.specs.Prelude.{ℕ, ◌+◌, ◌-◌, ◌^◌, ◌≤◌, ◌||◌, false, if◌then◌else◌, List, [], ◌∷◌, length, slice_index}
use Rattle.s390x_operations.specs.State.{Registers, Memory, State}
use Rattle.s390x_operations.specs.declared.stop.ConditionCode.TheVariants.{Code0}
use Rattle.s390x_machine.specs.Regions.{covers}
use Rattle.s390x_job.specs.declared.job.MemLine.{MemLine}
use Rattle.s390x_job.specs.declared.job.StartRegs.{StartRegs}

-- a memory in which these bytes stand from an address on, over what stood there
abbrev pub with_bytes : ℕ → List ℕ → Memory → Memory
with_bytes start bytes m = record {
  has = λ a. covers start bytes a || m.has a;
  get = λ a. if covers start bytes a then slice_index bytes (a - start) else m.get a;
}

-- a memory with these regions, each over those before it
abbrev pub with_regions : List MemLine → Memory → Memory
with_regions [] m = m
with_regions (r ∷ rs) m = with_regions rs (with_bytes r.address r.bytes.items m)

-- no address is accessible
abbrev pub no_memory : Memory
no_memory = record { has = λ a. false; get = λ a. 0 }

-- the regions, and then an image over them
abbrev pub start_memory : List MemLine → ℕ → List ℕ → Memory
start_memory regions base image = with_bytes base image (with_regions regions no_memory)

-- what general and vector registers start with; access registers and the condition code are 0
abbrev pub start_registers : StartRegs → Registers
start_registers r = record { general = λ i. slice_index r.general i; vector = λ i. slice_index r.vector i; access = λ i. 0; code = Code0 }

-- the state in which an image starts: at its base, with these registers and regions
abbrev pub start_state : StartRegs → List MemLine → ℕ → List ℕ → State
start_state registers regions base image = record { core = record { registers = start_registers registers; memory = start_memory regions base image }; address = base }

-- each region ends at 2 ^ 64 or before
abbrev pub AllRegionsFit : List MemLine → Type 0
AllRegionsFit [] = Unit {0}
AllRegionsFit (r ∷ rs) = (r.address + length r.bytes.items ≤ 2 ^ 64) × AllRegionsFit rs
