-- Several processors over one memory, and a schedule of their steps.
use Rattle.std.specs.Prelude.{◌≡◌, ℕ, zero, suc, ◌<◌, List, [], ◌∷◌, ◌++◌, ◌⊎◌, ◌==◌, if◌then◌else◌, IsFalse, take, length, get_or}
use Rattle.s390x_operations.specs.State.{Registers, Memory, State, Write, writes_of, CodeImage, IsDisjoint}
use Rattle.s390x_machine.specs.Machine.{Event, Executed, Interrupted, MachineStep, Transition}
use Rattle.s390x_machine.specs.State.{registers_of, fresh_registers}
use Rattle.s390x_machine.specs.Step.{Steps}
use Rattle.s390x_machine.specs.declared.machine.Machine.{Machine}
use Rattle.s390x_machine.specs.declared.step.StepEnd.TheVariants as step
use Rattle.s390x_schedule.specs.declared.schedule.ScheduleEnd.{ScheduleEnd}
use Rattle.s390x_schedule.specs.declared.schedule.ScheduleEnd.TheVariants.{Done, Stopped, NoRow}

-- what a processor has of its own
pub record Processor : Type 0 where
  pub registers : Registers
  pub address : ℕ

-- the processors, by their numbers, and the memory that they share
pub record World : Type 0 where
  pub processor : ℕ → Processor
  pub memory : Memory

-- the state of a machine, as one processor has it
abbrev pub view : World → ℕ → State
view w p = record { core = record { registers = (w.processor p).registers; memory = w.memory }; address = (w.processor p).address }

-- the world after a step of one processor, which leaves that processor and the memory in this state
abbrev pub after_step : World → ℕ → State → World
after_step w p s = record {
  processor = λ q. if q == p then record { registers = s.core.registers; address = s.address } else w.processor q;
  memory = s.core.memory;
}

-- ---- the schedule

-- one step of one processor: what it does, and the state in which it leaves that processor and the memory
pub record Tick : Type 0 where
  pub processor : ℕ
  pub event : Event
  pub after : State

-- it goes; else it stops
abbrev pub Goes : Event → Type 0
Goes (Executed x) = Unit {0}
Goes (Interrupted kind) = ⊥

abbrev pub after_tick : World → Tick → World
after_tick w t = after_step w t.processor t.after

-- each number takes one step of that processor over the shared memory, and the first step that doesn't go is the last
abbrev pub Scheduled : World → List ℕ → List Tick → Type 0
Scheduled w [] ticks = ticks ≡ []
Scheduled w (p ∷ ps) [] = ⊥
Scheduled w (p ∷ ps) (t ∷ ticks) =
    (t.processor ≡ p) × MachineStep (view w p) t.event t.after × (((Goes t.event → ⊥) × (ticks ≡ [])) ⊎ (Goes t.event × Scheduled (after_tick w t) ps ticks))

abbrev pub after_ticks : World → List Tick → World
after_ticks w [] = w
after_ticks w (t ∷ ticks) = after_ticks (after_tick w t) ticks

-- these numbers' steps, from one world to another
pub record Taken (w : World) (ps : List ℕ) (v : World) : Type 0 where
  pub ticks : List Tick
  pub scheduled : Scheduled w ps ticks
  pub is : v ≡ after_ticks w ticks

-- ---- as one of the processors sees it

-- what a step stores, as writes
abbrev pub stored_writes : Event → List Write
stored_writes (Executed x) = writes_of x
stored_writes (Interrupted kind) = []

-- One processor's transitions: before each of its steps come the writes of the others since its last one, which are these at first. What the others
-- store after its last step is left out
abbrev pub transitions_of : ℕ → List Write → List Tick → List Transition
transitions_of p ws [] = []
transitions_of p ws (t ∷ ticks) =
    if t.processor == p then record { writes = ws; event = t.event; after = t.after } ∷ transitions_of p [] ticks else transitions_of p (ws ++ stored_writes t.event) ticks

-- a step stores nothing into the image
abbrev pub LeavesImage : CodeImage → Event → Type 0
LeavesImage image (Executed x) = IsDisjoint image x
LeavesImage image (Interrupted kind) = Unit {0}

-- no processor but this one stores into the image
abbrev pub OthersLeaveImage : CodeImage → ℕ → List Tick → Type 0
OthersLeaveImage image p [] = Unit {0}
OthersLeaveImage image p (t ∷ ticks) = (IsFalse (t.processor == p) → LeavesImage image t.event) × OthersLeaveImage image p ticks

-- ---- the program

-- each number is one of so many machines'
abbrev pub NameMachines : ℕ → List ℕ → Type 0
NameMachines n [] = Unit {0}
NameMachines n (p ∷ ps) = (p < n) × NameMachines n ps

-- a machine as a processor
abbrev pub processor_of : Machine → Processor
processor_of m = record { registers = registers_of m; address = m.place }

-- the machines by their numbers; one that isn't there is zero
abbrev pub processors_of : List Machine → ℕ → Processor
processors_of [] p = record { registers = fresh_registers; address = 0 }
processors_of (m ∷ ms) zero = processor_of m
processors_of (m ∷ ms) (suc p) = processors_of ms p

abbrev pub world_of : List Machine → Memory → World
world_of ms memory = record { processor = processors_of ms; memory = memory }

-- each of these processors in turn takes a step of the machine's program that goes, from one world to another
abbrev pub AllGo : World → List ℕ → World → Type 0
AllGo w [] v = v ≡ w
AllGo w (p ∷ ps) v = (s : State) × Steps (view w p) step.Went s × AllGo (after_step w p s) ps v

-- How the steps of a schedule end, from one world to another: each goes; or one stops or is open, and those before it go
abbrev pub EndsAs : World → List ℕ → ScheduleEnd → World → Type 0
EndsAs w ps Done v = AllGo w ps v
EndsAs w ps (Stopped at kind address) v = (at < length ps) × AllGo w (take at ps) v × Steps (view v (get_or ps at 0)) (step.Stopped kind address) (view v (get_or ps at 0))
EndsAs w ps (NoRow at) v = (at < length ps) × AllGo w (take at ps) v × Steps (view v (get_or ps at 0)) step.NoRow (view v (get_or ps at 0))

-- the numbers whose steps are taken: a step that is open isn't one
abbrev pub steps_taken : List ℕ → ScheduleEnd → List ℕ
steps_taken ps Done = ps
steps_taken ps (Stopped at kind address) = ps
steps_taken ps (NoRow at) = take at ps
