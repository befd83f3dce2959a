-- Which registers an assigned instruction may change.
use Rattle.std.specs.Prelude.{◌≡◌, ℕ, zero, suc, ◌+◌, ◌-◌, cond, List, [], ◌∷◌, ◌++◌, Some, None, slice_get, ⊤}
use Rattle.std.specs.List.{All}
use Rattle.s390x_base.specs.Registers.{general, vector}
use Rattle.s390x_base.specs.declared.regs.Reg.{Reg}
use Rattle.s390x_base.specs.declared.regs.Reg.TheVariants.{Real}
use Rattle.s390x_inst.specs.declared.inst.Inst.{Inst}
use Rattle.s390x_inst.specs.declared.inst.Inst.TheVariants.{LoadMultiple64, CondBreak}
use Rattle.s390x_operands.specs.Meets.{Meets}
use Rattle.s390x_operands.specs.Operands.{operands}
use Rattle.s390x_operands.specs.declared.constraint.OperandKind.TheVariants.{Def, Use}
use Rattle.s390x_operands.specs.declared.constraint.Reported.{Reported}
use Rattle.s390x_operands.specs.declared.constraint.Reported.TheVariants.{Operand, Fixed, Clobbers}
use Rattle.s390x_typed_steps.specs.Operands.{is_numbered}
use Rattle.s390x_typed_steps.specs.Resolved.{resolved_instruction}
use Rattle.s390x_typed_steps.specs.Baseline.{tree_for}
use Rattle.s390x_typed_steps.specs.Folding.{folded_members}
use Rattle.s390x_typed_steps.specs.Tree.{empty, prepend}
use Rattle.s390x_typed_steps.specs.Steps.{Step, Plain, Shortened, LoadedStep, Break, steps_of}
use Rattle.s390x_operations.specs.State.{Registers, Core}
use Rattle.s390x_machine.specs.Layout.{Layout}
use Rattle.s390x_machine.specs.Typed.{Position, TypedStep}
use Rattle.s390x_alloc_laws.specs.Allocatable.{Place, Spares, IsAssigned, refusal}

-- the register is none of these
abbrev pub IsApart : Reg → List Reg → Type 0
IsApart q [] = ⊤
IsApart q (p ∷ ps) = (p ≡ q → ⊥) × IsApart q ps

-- what the outputs among the items got, and %r1 where it is reported
abbrev pub outputs : List Reported → List Reg → List Reg
outputs [] s = []
outputs (Operand reg constraint kind pos ∷ xs) [] = []
outputs (Operand reg constraint Def pos ∷ xs) (q ∷ s) = q ∷ outputs xs s
outputs (Operand reg constraint Use pos ∷ xs) (q ∷ s) = outputs xs s
outputs (Fixed p ∷ xs) s = cond (is_numbered 1 (Real p)) (Real (general 1) ∷ outputs xs s) (outputs xs s)
outputs (Clobbers set ∷ xs) s = outputs xs s

-- so many general registers from one on
abbrev pub generals : (first count : ℕ) → List Reg
generals first zero = []
generals first (suc n) = Real (general (first + n)) ∷ generals first n

-- the general registers from a real one to another
abbrev pub range_of : (first last : Reg) → List Reg
range_of (Real p) (Real q) = generals p.number (q.number + 1 - p.number)
range_of first last = []

-- the registers that a `LoadMultiple64` loads
abbrev pub loaded_range : Inst → List Reg
loaded_range (LoadMultiple64 rt rt2 mem) = range_of rt rt2
loaded_range i = []

-- the registers that an instruction may change that gets these registers
abbrev pub changeable : Inst → List Reg → List Reg
changeable i registers = loaded_range i ++ outputs (operands i) registers

-- all registers but some hold what they held
pub record KeepsOthers (changed : List Reg) (before behind : Registers) : Type 0 where
  pub general : (n : ℕ) → IsApart (Real (general n)) changed → behind.general n ≡ before.general n
  pub vector : (n : ℕ) → IsApart (Real (vector n)) changed → behind.vector n ≡ before.vector n
  pub access : (n : ℕ) → behind.access n ≡ before.access n

-- a step is that of an instruction: whole, with what is left of its branches, or with its operand's address loaded first. A break stands for itself
abbrev pub IsStepOf : Inst → Step → Type 0
IsStepOf j (Plain i) = i ≡ j
IsStepOf j (Shortened r i) = i ≡ j
IsStepOf j (LoadedStep i) = i ≡ j
IsStepOf j (Break mask target) = j ≡ CondBreak mask
IsStepOf j s = ⊥

-- no step of an instruction changes other registers
abbrev pub StepsKeepOthers : Inst → List Reg → Type 0
StepsKeepOthers j changed =
    (L : Layout) (k : ℕ) (s : Step) → slice_get L.steps k ≡ Some s → IsStepOf j s → (c : Core) (position : Position) (t : Core) → TypedStep L k c position t → KeepsOthers changed c.registers t.registers

-- with all registers that meet the constraints, where emission doesn't refuse that
abbrev pub ChangesOutputs : Place → Inst → Type 0
ChangesOutputs P i =
    (registers : List Reg) (j : Inst) → Meets (operands i) registers → Spares (operands i) registers → IsAssigned i registers j → refusal P j ≡ None → StepsKeepOthers (resolved_instruction P.state j) (changeable i registers)

-- emission makes none but steps of the instruction that it becomes, at any place in a block or a loop; also where the branches before the next block are folded
abbrev pub EmitsItsSteps : Place → Inst → Type 0
EmitsItsSteps P i =
    (registers : List Reg) (j : Inst) → IsAssigned i registers j → (k after : ℕ) → All (IsStepOf (resolved_instruction P.state j)) (steps_of k after (tree_for P.flags (prepend P.state j empty))) × ((next : ℕ) → All (IsStepOf (resolved_instruction P.state j)) (steps_of k after (folded_members next (tree_for P.flags (prepend P.state j empty)))))
