-- Retry loops: a loop that swaps a word of memory at its end, and tries again where another processor was faster. What one run of such a loop stores.
use Rattle.std.specs.Prelude.{◌≡◌, ℕ, suc, ◌+◌, ◌-◌, ◌<◌, ◌≤◌, ◌⊎◌, List, [], ◌∷◌, ◌++◌, length, Option, Some, None, Bool, true, false, nat_le, nat_lt, ◌&&◌, if◌then◌else◌, slice_get, IsFalse}
use Rattle.s390x_base.specs.Regs.{number_of}
use Rattle.s390x_base.specs.declared.regs.Reg.{Reg}
use Rattle.s390x_inst.specs.declared.args.MemArg.{MemArg}
use Rattle.s390x_inst.specs.declared.inst.Inst.{Inst}
use Rattle.s390x_inst.specs.declared.inst.Inst.TheVariants.{AtomicCas32, AtomicCas64}
use Rattle.s390x_typed_steps.specs.Steps.{Step, Plain, Opening, Back, Break}
use Rattle.s390x_operations.specs.State.{Registers, Core, State, StoreEvent, number_at}
use Rattle.s390x_operations.specs.Access.{Untouched}
use Rattle.s390x_operations.specs.Bits.{bytes}
use Rattle.s390x_operations.specs.Effects.{access, stop_of_effect, MayRefuse, is_selected}
use Rattle.s390x_operations.specs.Values.{width_of}
use Rattle.s390x_operations.specs.declared.effect.Operation.{Operation}
use Rattle.s390x_operations.specs.declared.size.Size.{Size}
use Rattle.s390x_operations.specs.declared.size.Size.TheVariants.{Word, Doubleword}
use Rattle.s390x_operations.specs.declared.stop.ConditionCode.TheVariants.{Code0}
use Rattle.s390x_operations.specs.declared.stop.StopKind.{StopKind}
use Rattle.s390x_machine.specs.Layout.{Layout, step_address}
use Rattle.s390x_machine.specs.Machine.{Event, Executed, Interrupted, Transition, after_writes, after_all}
use Rattle.s390x_machine.specs.Match.{concatenation, start, StoreNothing, TypedRun}
use Rattle.s390x_machine.specs.Operands.{value_in}
use Rattle.s390x_machine.specs.StepKinds.{StepKind, Performs, PerformsWhere, ComparesWide, Silent, instruction_kind}
use Rattle.s390x_machine.specs.Storage.{operand_address}
use Rattle.s390x_machine.specs.Typed.{At}

-- ---- the loop

-- an operation that accesses no memory and that no values stop
pub record StaysInRegisters (op : Operation) : Type 0 where
  pub untouched : access op.effect ≡ Untouched
  pub allowed : stop_of_effect op.effect ≡ None
  pub certain : (kind : StopKind) → MayRefuse op.effect kind → ⊥

-- register work is such an operation, also under a mask, or a comparison of vector registers as numbers of 128 bits, or nothing at all
abbrev pub IsRegisterWork : StepKind → Type 0
IsRegisterWork (Performs needs operation code) = (r : Registers) → StaysInRegisters (operation r)
IsRegisterWork (PerformsWhere mask operation) = (r : Registers) → StaysInRegisters (operation r)
IsRegisterWork (ComparesWide sign tmp n m) = Unit {0}
IsRegisterWork Silent = Unit {0}
IsRegisterWork _ = ⊥

-- a member before the swap, in a loop that ends before step `end`: register work, or a break out of the loop
abbrev pub IsMember : Layout → (end : ℕ) → Step → Type 0
IsMember L end (Plain i) = IsRegisterWork (instruction_kind L i)
IsMember L end (Break mask target) = target ≡ end
IsMember L end _ = ⊥

-- the compare and swap of a doubleword, or of a word
abbrev pub swap_instruction : (wide : Bool) → (rd ri rn : Reg) → MemArg → Inst
swap_instruction true rd ri rn mem = AtomicCas64 rd ri rn mem
swap_instruction false rd ri rn mem = AtomicCas32 rd ri rn mem

-- the part of a register that it swaps
abbrev pub swap_size : Bool → Size
swap_size true = Doubleword
swap_size false = Word

-- A loop in a function's typed steps: its opening, its members of which the last one is the swap, and the back branch to its first member. The other
-- members are register work and breaks, and where the swap succeeded, which is code 0, the back branch isn't taken
pub record Retry (L : Layout) : Type 0 where
  pub opening : ℕ
  pub swap : ℕ
  pub wide : Bool
  pub rd : Reg
  pub ri : Reg
  pub rn : Reg
  pub operand : MemArg
  pub mask : ℕ
  pub opens : slice_get L.steps opening ≡ Some Opening
  pub order : opening < swap
  pub members : (k : ℕ) → opening < k → k < swap → (s : Step) × (slice_get L.steps k ≡ Some s) × IsMember L (suc (suc swap)) s
  pub swaps : slice_get L.steps swap ≡ Some (Plain (swap_instruction wide rd ri rn operand))
  pub back : slice_get L.steps (suc swap) ≡ Some (Back mask (suc opening))
  pub retries : IsFalse (is_selected mask Code0)

-- the step behind the loop
abbrev pub end_of : (L : Layout) → Retry L → ℕ
end_of L R = suc (suc R.swap)

-- ---- one run of it

-- the address is that of one of the loop's bytes; those of an image count up from its base
abbrev pub is_in_loop : (L : Layout) → Retry L → ℕ → Bool
is_in_loop L R a = nat_le L.image.base a && (nat_le (L.offsets.step (suc R.opening)) (a - L.image.base) && nat_lt (a - L.image.base) (L.offsets.step (end_of L R)))

-- the transitions until the processor leaves the loop
abbrev pub loop_run : (L : Layout) → Retry L → State → List Transition → List Transition
loop_run L R s [] = []
loop_run L R s (t ∷ trace) = if is_in_loop L R s.address then t ∷ loop_run L R t.after trace else []

-- what a transition stores
abbrev pub stored_in : Event → Option StoreEvent
stored_in (Executed x) = x
stored_in (Interrupted kind) = None

abbrev pub event_list : Option StoreEvent → List StoreEvent
event_list None = []
event_list (Some x) = x ∷ []

-- what the transitions store, in order
abbrev pub stores_of : List Transition → List StoreEvent
stores_of [] = []
stores_of (t ∷ trace) = event_list (stored_in t.event) ++ stores_of trace

-- a transition executes
abbrev pub IsExecuted : Event → Type 0
IsExecuted (Executed x) = Unit {0}
IsExecuted (Interrupted kind) = ⊥

-- A transition from a state is a swap that succeeded, as code 0 tells: it leads to the back branch. Or it is the back branch behind one, and leaves the loop
abbrev pub IsSuccess : (L : Layout) → Retry L → State → Transition → Type 0
IsSuccess L R s t =
    (IsExecuted t.event × (t.after.address ≡ step_address L (suc R.swap)) × (t.after.core.registers.code ≡ Code0))
    ⊎ (IsExecuted t.event × (s.address ≡ step_address L (suc R.swap)) × (s.core.registers.code ≡ Code0) × (t.after.address ≡ step_address L (end_of L R)))

-- the run ends with a swap that succeeded
abbrev pub EndsBySwap : (L : Layout) → Retry L → State → List Transition → Type 0
EndsBySwap L R s [] = ⊥
EndsBySwap L R s (t ∷ []) = IsSuccess L R s t
EndsBySwap L R s (t ∷ u ∷ trace) = EndsBySwap L R t.after (u ∷ trace)

-- the run ends by a break: its last transition begins at a member before the swap, and leaves the loop
abbrev pub EndsByBreak : (L : Layout) → Retry L → State → List Transition → Type 0
EndsByBreak L R s [] = ⊥
EndsByBreak L R s (t ∷ []) = (k : ℕ) × (R.opening < k) × (k < R.swap) × (s.address ≡ step_address L k) × (t.after.address ≡ step_address L (end_of L R))
EndsByBreak L R s (t ∷ u ∷ trace) = EndsByBreak L R t.after (u ∷ trace)

-- ---- what it stores

-- One of the transitions from a state stores this. Before it come earlier rounds of the loop, and then, in the round of that transition, one group of
-- transitions for each member before the swap, a typed run of them from the registers, code and memory with which that round begins, and then the swap's
-- helpers. The transition finds at the swap's operand what `rd` holds behind that typed run, and puts there what `rn` holds behind it: of a word, the right halves
pub record Swapped (L : Layout) (R : Retry L) (s : State) (trace : List Transition) (x : StoreEvent) : Type 0 where
  pub earlier : List Transition
  pub groups : List (List Transition)
  pub helpers : List Transition
  pub transition : Transition
  pub later : List Transition
  pub first : Core
  pub reached : Core
  pub split : trace ≡ (earlier ++ (concatenation groups ++ helpers)) ++ transition ∷ later
  pub begins : after_all s earlier ≡ start L (suc R.opening) first
  pub run : TypedRun L (At (suc R.opening)) first groups (At R.swap) reached
  pub each : length groups + suc R.opening ≡ R.swap
  pub quiet : StoreNothing helpers
  pub event : transition.event ≡ Executed (Some x)
  pub address : Registers → ℕ
  pub operand : operand_address L R.operand ≡ Some address
  pub puts : x ≡ record { address = address reached.registers; size = bytes (width_of (swap_size R.wide)); value = value_in (swap_size R.wide) reached.registers (number_of R.rn) }
  pub found : number_at (after_writes (after_all s (earlier ++ (concatenation groups ++ helpers))) transition).core.memory.get (address reached.registers) (bytes (width_of (swap_size R.wide))) ≡ value_in (swap_size R.wide) reached.registers (number_of R.rd)

-- A run of the loop stores at most once, and then as the swap; exactly once where it ends with a swap that succeeded, and never where it ends by a break
pub record StoresByItsSwap (L : Layout) (R : Retry L) (s : State) (trace : List Transition) : Type 0 where
  pub at_most : length (stores_of trace) ≤ 1
  pub stored : (x : StoreEvent) → stores_of trace ≡ x ∷ [] → Swapped L R s trace x
  pub by_swap : EndsBySwap L R s trace → length (stores_of trace) ≡ 1
  pub by_break : EndsByBreak L R s trace → stores_of trace ≡ []
