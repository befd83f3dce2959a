-- Which registers the machine leaves that runs the bytes of an assigned instruction.
use Rattle.std.specs.Prelude.{◌≡◌, ℕ, ◌≤◌, List, [], ◌∷◌, ◌++◌, Some, None, length, slice_get}
use Rattle.s390x_base.specs.declared.regs.Reg.{Reg}
use Rattle.s390x_inst.specs.declared.inst.Inst.{Inst}
use Rattle.s390x_operands.specs.Meets.{Meets}
use Rattle.s390x_operands.specs.Operands.{operands}
use Rattle.s390x_typed_steps.specs.Resolved.{resolved_instruction}
use Rattle.s390x_typed_steps.specs.Steps.{Step}
use Rattle.s390x_operations.specs.State.{Core, IsLoaded, core_after_writes}
use Rattle.s390x_machine.specs.CodeAt.{AllCodeAt}
use Rattle.s390x_machine.specs.Layout.{Layout, InStep}
use Rattle.s390x_machine.specs.Match.{EndsMatch, HasNoBytes, start}
use Rattle.s390x_machine.specs.Machine.{Run, Transition, after_all, all_writes}
use Rattle.s390x_machine.specs.Typed.{At, Ended, Ending, TypedStep, Wrong}
use Rattle.s390x_alloc_laws.specs.Allocatable.{Place, Spares, IsAssigned, refusal}
use Rattle.s390x_alloc_laws.specs.Outputs.{IsStepOf, KeepsOthers, changeable}

-- A machine run from step k's address, and what it has done where the step is done: all registers but some hold what they held at that address
pub data RunKeeps (L : Layout) (k : ℕ) (changed : List Reg) (c : Core) (trace : List Transition) : Type 0 where
  -- the step isn't done: after at most three transitions the machine stands at one of its bytes
  under_way : length trace ≤ 3 → InStep L k (after_all (start L k c) trace).address → RunKeeps L k changed c trace
  -- the step has no bytes
  silent : HasNoBytes L k → RunKeeps L k changed c trace
  -- at most four transitions are the step, and lead to step j
  goes : (h rest : List Transition) (transition : Transition) → trace ≡ h ++ transition ∷ rest → length h ≤ 3 → (j : ℕ) (t : Core) → TypedStep L k (core_after_writes (all_writes (h ++ transition ∷ [])) c) (At j) t → transition.after ≡ start L j t →
      KeepsOthers changed c.registers transition.after.core.registers → RunKeeps L k changed c trace
  -- the step ends the run
  ends : (g rest : List Transition) → trace ≡ g ++ rest → length g ≤ 4 → (e : Ending) (t : Core) → TypedStep L k (core_after_writes (all_writes g) c) (Ended e) t → EndsMatch L (Ended e) t (after_all (start L k c) g) rest →
      KeepsOthers changed c.registers (after_all (start L k c) g).core.registers → RunKeeps L k changed c trace
  -- the step is wrong, and nothing more is said
  wrong : Wrong L k c → RunKeeps L k changed c trace

-- no machine changes other registers by the bytes of a step of an instruction, wherever code stands that emission lets pass
abbrev pub MachineKeepsOthers : Inst → List Reg → Type 0
MachineKeepsOthers j changed =
    (L : Layout) → AllCodeAt L → (k : ℕ) (s : Step) → slice_get L.steps k ≡ Some s → IsStepOf j s → (c : Core) → IsLoaded L.image c.memory → (trace : List Transition) → Run L.image (start L k c) trace → RunKeeps L k changed c trace

-- with all registers that meet the constraints, where no cause refuses the step
abbrev pub MachineChangesOutputs : Place → Inst → Type 0
MachineChangesOutputs P i =
    (registers : List Reg) (j : Inst) → Meets (operands i) registers → Spares (operands i) registers → IsAssigned i registers j → refusal P j ≡ None → MachineKeepsOthers (resolved_instruction P.state j) (changeable i registers)
