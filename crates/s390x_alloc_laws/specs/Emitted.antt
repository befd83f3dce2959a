-- What an instruction changes that emission lets pass with an allocator's registers.
use Rattle.std.specs.Prelude.{◌≡◌, ℕ, List, None}
use Rattle.std.specs.List.{All}
use Rattle.s390x_base.specs.declared.regs.Reg.{Reg}
use Rattle.s390x_inst.specs.declared.inst.Inst.{Inst}
use Rattle.s390x_operands.specs.Meets.{Meets}
use Rattle.s390x_operands.specs.Operands.{operands}
use Rattle.s390x_typed_steps.specs.Baseline.{tree_for}
use Rattle.s390x_typed_steps.specs.Folding.{folded_members}
use Rattle.s390x_typed_steps.specs.Resolved.{resolved_instruction}
use Rattle.s390x_typed_steps.specs.Steps.{steps_of}
use Rattle.s390x_typed_steps.specs.Tree.{empty, prepend}
use Rattle.s390x_alloc_laws.specs.Allocatable.{IsAssigned, Place, Spares, emission_refusal}
use Rattle.s390x_alloc_laws.specs.Machine.{MachineKeepsOthers}
use Rattle.s390x_alloc_laws.specs.Outputs.{IsStepOf, StepsKeepOthers, changeable}

-- An instruction that became another with these registers changes nothing but what it reported: the steps that emission makes there are that one's, also where the
-- branches before the next block are folded, and neither they nor a machine that has done their bytes change other registers
pub record ChangesOnlyOutputs (P : Place) (i : Inst) (registers : List Reg) (j : Inst) : Type 0 where
  pub steps : (k after : ℕ) → All (IsStepOf (resolved_instruction P.state j)) (steps_of k after (tree_for P.flags (prepend P.state j empty)))
  pub folds : (k after next : ℕ) → All (IsStepOf (resolved_instruction P.state j)) (steps_of k after (folded_members next (tree_for P.flags (prepend P.state j empty))))
  pub typed : StepsKeepOthers (resolved_instruction P.state j) (changeable i registers)
  pub machine : MachineKeepsOthers (resolved_instruction P.state j) (changeable i registers)

-- so it is with all registers that meet the constraints, where emission doesn't refuse what it becomes, with so many labels in use
abbrev pub EmittedChangesOutputs : Place → Inst → Type 0
EmittedChangesOutputs P i =
    (labels : ℕ) (registers : List Reg) (j : Inst) → Meets (operands i) registers → Spares (operands i) registers → IsAssigned i registers j → emission_refusal P labels j ≡ None → ChangesOnlyOutputs P i registers j
