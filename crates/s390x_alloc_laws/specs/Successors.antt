-- Where the typed steps lead of the function that a plan gives: to no other blocks than the checker of the plan takes for successors.
use Rattle.std.specs.Prelude.{◌≡◌, ℕ, suc, ◌<◌, ◌⊎◌, true, false, List, [], ◌∷◌, ◌++◌, Some, None, slice_get}
use Rattle.s390x_base.specs.declared.ir.MachLabel.{MachLabel}
use Rattle.s390x_base.specs.declared.regs.Reg.{Reg}
use Rattle.s390x_inst.specs.Emission.{Emission}
use Rattle.s390x_inst.specs.declared.calls.CallInfo.{CallInfo}
use Rattle.s390x_inst.specs.declared.inst.Inst.{Inst}
use Rattle.s390x_inst.specs.declared.inst.Inst.TheVariants.{Call, Jump}
use Rattle.s390x_typed_steps.specs.Calls.{calling, site_labels}
use Rattle.s390x_typed_steps.specs.Resolved.{resolved_instruction}
use Rattle.s390x_typed_steps.specs.Steps.{Step, Plain, Shortened, LoadedStep}
use Rattle.s390x_operations.specs.State.{Core}
use Rattle.s390x_machine.specs.Layout.{Layout}
use Rattle.s390x_machine.specs.Typed.{At, TypedStep}
use Rattle.s390x_alloc.specs.Shape.{ending, is_leading, is_unsupported, precedes}
use Rattle.s390x_alloc_laws.specs.Allocatable.{IsAssigned}

-- the step of an instruction, outside of loops: whole, with what is left of its branches, or with its operand's address loaded first. Calls have others
abbrev pub IsStepOf : Inst → Step → Type 0
IsStepOf j (Plain i) = i ≡ j
IsStepOf j (Shortened r i) = i ≡ j
IsStepOf j (LoadedStep i) = i ≡ j
IsStepOf j s = ⊥

-- step k of a layout is that of what the instruction has become, by some registers and at some place
pub record StepAt (L : Layout) (k : ℕ) (i : Inst) : Type 0 where
  pub registers : List Reg
  pub instruction : Inst
  pub assigned : IsAssigned i registers instruction
  pub state : Emission
  pub step : Step
  pub stands : slice_get L.steps k ≡ Some step
  pub own : IsStepOf (resolved_instruction state instruction) step

-- a step that goes on goes to the next one, where the checker doesn't take its instruction for one that names where it leads
abbrev pub StepsStay : Type 0
StepsStay = (L : Layout) (k : ℕ) (i : Inst) → StepAt L k i → is_leading (ending i) ≡ false → (c t : Core) (j : ℕ) → TypedStep L k c (At j) t → j ≡ suc k

-- step k is the last one of block `here` of `count` blocks: the next step is the first one of the next block, or there is none
abbrev pub EndsBlock : Layout → (count here k : ℕ) → Type 0
EndsBlock L count here k = ((suc here < count) × (suc k ≡ L.first_step (suc here))) ⊎ (slice_get L.steps (suc k) ≡ None)

-- the last step of a block goes on to the first step of a block that the checker takes for a successor, if it goes on to a step at all
abbrev pub StepsLeadToSuccessors : Type 0
StepsLeadToSuccessors =
    (L : Layout) (count here k : ℕ) (before : List Inst) (i : Inst) → StepAt L k i → EndsBlock L count here k → (c t : Core) (j : ℕ) (next : Step) → TypedStep L k c (At j) t → slice_get L.steps j ≡ Some next →
    (b : ℕ) × (precedes count here (before ++ i ∷ []) b ≡ true) × (j ≡ L.first_step b)

-- no handlers of exceptions are recorded for a call that a plan may have, so that a call leads to no block
abbrev pub CallsHaveNoHandlers : Type 0
CallsHaveNoHandlers = (e : Emission) (link : Reg) (info : CallInfo) → is_unsupported (Call link info) ≡ false → site_labels (calling e link info).sites ≡ []

-- some step goes on so: a jump, which leads to its block
abbrev pub JumpsLead : Type 0
JumpsLead = (e : Emission) (L : Layout) (k : ℕ) (dest : MachLabel) (c : Core) → slice_get L.steps k ≡ Some (Plain (Jump dest)) → StepAt L k (Jump dest) × TypedStep L k c (At (L.first_step dest.0)) c
