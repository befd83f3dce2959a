-- Completed stores, and what a run by a schedule does.
use Rattle.std.specs.Prelude.{◌≡◌, ℕ, suc, ◌+◌, ◌%◌, ◌^◌, ◌<◌, ◌⊎◌, ◌==◌, ◌||◌, Bool, List, [], ◌∷◌, length, get_or}
use Rattle.s390x_format.specs.declared.decoder.Decoded.{Decoded}
use Rattle.s390x_operations.specs.State.{State}
use Rattle.s390x_operations.specs.declared.stop.ConditionCode.{ConditionCode}
use Rattle.s390x_operations.specs.declared.stop.ConditionCode.TheVariants.{Code0}
use Rattle.s390x_machine.specs.Fetch.{IsFound}
use Rattle.s390x_rows.specs.declared.opcodes.TheConstants as opcodes
use Rattle.s390x_schedule.specs.Schedule.{World, Tick, Goes, Scheduled, after_tick, after_ticks, view}
use Rattle.s390x_smp.specs.Simulation.{Simulation, world}

-- an instruction with this opcode stands at the state's address
abbrev pub IsRow : ℕ → State → Type 0
IsRow opcode s = (d : Decoded) × IsFound s.core.memory s.address d × (d.row.opcode ≡ opcode)

-- a step from one state to another is COMPARE AND SWAP that ends with code 0, or LOAD AND ADD LOGICAL
abbrev pub CompletesStore : (s t : State) → Type 0
CompletesStore s t = (IsRow opcodes.CS s × (t.core.registers.code ≡ Code0)) ⊎ IsRow opcodes.LAAL s

-- a processor's completed store
abbrev pub IsStoreOf : ℕ → World → Tick → Type 0
IsStoreOf p w t = (t.processor ≡ p) × Goes t.event × CompletesStore (view w p) t.after

-- a processor's completed stores are so many
abbrev pub HasStores : ℕ → World → List Tick → ℕ → Type 0
HasStores p w [] n = n ≡ 0
HasStores p w (t ∷ ticks) n =
    ((m : ℕ) × (n ≡ suc m) × IsStoreOf p w t × HasStores p (after_tick w t) ticks m) ⊎ ((IsStoreOf p w t → ⊥) × HasStores p (after_tick w t) ticks n)

-- every step goes
abbrev pub AllWent : List Tick → Type 0
AllWent [] = Unit {0}
AllWent (t ∷ ticks) = Goes t.event × AllWent ticks

-- the count of completed stores of a processor rises by their number, modulo 2 ^ 64
pub record Counts (p : ℕ) (w : World) (ticks : List Tick) (before after : ℕ) : Type 0 where
  pub number : ℕ
  pub is : HasStores p w ticks number
  pub rises : after ≡ (before + number) % 2 ^ 64

-- the machines and the memory after are those that the schedule gives; every step goes, and each processor's completed stores are counted
pub record RunsAs (a : Simulation) (ps : List ℕ) (b : Simulation) : Type 0 where
  pub base_is : b.base ≡ a.base
  pub word_is : b.word ≡ a.word
  pub addends_are : b.addends ≡ a.addends
  pub machines : length b.machines ≡ length a.machines
  pub stores : length b.stores ≡ length a.stores
  pub ticks : List Tick
  pub scheduled : Scheduled (world a) ps ticks
  pub went : AllWent ticks
  pub ends : world b ≡ after_ticks (world a) ticks
  pub counts : (p : ℕ) → p < length a.stores → Counts p (world a) ticks (get_or a.stores p 0) (get_or b.stores p 0)

-- the code's offset and the condition code after a step tell whether it completes a store
abbrev pub has_stored : ℕ → ConditionCode → Bool
has_stored offset Code0 = (offset == 4) || (offset == 16)
has_stored offset _ = offset == 16
