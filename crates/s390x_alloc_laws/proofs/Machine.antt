-- From the typed steps to the machine's run.
use Rattle.std.proofs.Common.{◌≡◌, ℕ, List, [], ◌∷◌, ◌++◌, ap}
use Rattle.s390x_base.specs.declared.regs.Reg.{Reg}
use Rattle.s390x_inst.specs.declared.inst.Inst.{Inst}
use Rattle.s390x_operations.specs.State.{Core, State, core_after_writes}
use Rattle.s390x_machine.proofs.Instructions.{step_runs_placed}
use Rattle.s390x_machine.specs.Layout.{Layout}
use Rattle.s390x_machine.specs.Match.{EndsMatch, start}
use Rattle.s390x_machine.specs.OneStep.{Runs, waits, silent, goes, stops, ends, stuck}
use Rattle.s390x_machine.specs.Machine.{Transition, after_all, all_writes}
use Rattle.s390x_machine.specs.Typed.{At, Called, DebugStopped, Ended, Ending, Position, Returned, TailCalled, Trapped, TypedStep}
use Rattle.s390x_alloc_laws.specs.Allocatable.{IsAllocatable, Place}
use Rattle.s390x_alloc_laws.specs.Machine as Kept
use Rattle.s390x_alloc_laws.specs.Machine.{MachineChangesOutputs, RunKeeps}
use Rattle.s390x_alloc_laws.specs.Outputs.{KeepsOthers, changeable}
use Rattle.s390x_alloc_laws.proofs.Effects.{kept_by}
use Rattle.s390x_alloc_laws.proofs.OutputLaws.{changes_outputs}

-- where a step ends the run, the machine has the step's core
ended_core : (L : Layout) (e : Ending) (t : Core) (s : State) (rest : List Transition) → EndsMatch L (Ended e) t s rest → s.core ≡ t
ended_core L (Returned a) t s rest h = ap (λ (x : State). x.core) h
ended_core L (Called a) t s rest h = ap (λ (x : State). x.core) h
ended_core L (TailCalled a) t s rest h = ap (λ (x : State). x.core) h
ended_core L (Trapped n) t s rest h = h.0
ended_core L DebugStopped t s rest h = h.0

-- a step leaves all registers but some, from every core
abbrev StepKeeps : Layout → ℕ → List Reg → Type 0
StepKeeps L k changed = (c : Core) (position : Position) (t : Core) → TypedStep L k c position t → KeepsOthers changed c.registers t.registers

run_keeps : (L : Layout) (k : ℕ) (changed : List Reg) (c : Core) (trace : List Transition) → StepKeeps L k changed → Runs L k c trace → RunKeeps L k changed c trace
run_keeps L k changed c trace keeps (waits few nothing inside) = Kept.under_way few inside
run_keeps L k changed c trace keeps (silent typed le none) = Kept.silent none
run_keeps L k changed c trace keeps (goes h rest transition is few some nothing j t typed event memory after loaded) =
    let held : KeepsOthers changed c.registers t.registers = keeps (core_after_writes (all_writes (h ++ transition ∷ [])) c) (At j) t typed in
    let same : transition.after.core.registers ≡ t.registers = ap (λ (x : State). x.core.registers) after in
    Kept.goes h rest transition is few j t typed after (kept_by changed c.registers t.registers transition.after.core.registers same held)
run_keeps L k changed c trace keeps (stops h rest transition kind is nothing event bad) = Kept.wrong bad
run_keeps L k changed c trace keeps (ends g rest is e t typed group match) =
    let behind : State = after_all (start L k c) g in
    let held : KeepsOthers changed c.registers t.registers = keeps (core_after_writes (all_writes g) c) (Ended e) t typed in
    let same : behind.core.registers ≡ t.registers = ap (λ (x : Core). x.registers) (ended_core L e t behind rest match) in
    Kept.ends g rest is group.0 e t typed match (kept_by changed c.registers t.registers behind.core.registers same held)
run_keeps L k changed c trace keeps (stuck bad loses) = Kept.wrong bad

pub machine_changes_outputs : (P : Place) (i : Inst) → IsAllocatable P i → MachineChangesOutputs P i
machine_changes_outputs P i a s j meet spare is unrefused L code k step at own c loaded trace run =
    run_keeps L k (changeable i s) c trace (λ d position t typed. changes_outputs P i a s j meet spare is unrefused L k step at own d position t typed) (step_runs_placed L code k step at c loaded trace run)
