-- A function's steps beside those of its instructions as they are given: what the flags of the machine and the ends of blocks change of them.
use Rattle.std.specs.Prelude.{◌≡◌, ℕ, List, [], ◌∷◌, Bool, true, Option, map}
use Rattle.s390x_base.specs.declared.trap.TrapKind.{TrapKind}
use Rattle.s390x_inst.specs.Emission.{Emission}
use Rattle.s390x_inst.specs.declared.function.Block.{Block}
use Rattle.s390x_inst.specs.declared.inst.Inst.{Inst}
use Rattle.s390x_inst.specs.declared.state.IsaFlags.{IsaFlags}
use Rattle.s390x_typed_steps.specs.Baseline.{tree_for}
use Rattle.s390x_typed_steps.specs.Folding.{folded_trees}
use Rattle.s390x_typed_steps.specs.Steps.{Step, first_step, function_steps}
use Rattle.s390x_typed_steps.specs.Tree.{Tree, empty, prepend, block_tree}
use Rattle.s390x_operations.specs.State.{Registers}
use Rattle.s390x_operations.specs.declared.effect.Operation.{Operation}
use Rattle.s390x_operations.specs.declared.stop.StopKind.{StopKind}
use Rattle.s390x_machine.specs.Layout.{Layout}
use Rattle.s390x_machine.specs.StepKinds.{Performs, step_kind}
use Rattle.s390x_machine.specs.Storage.{aligned_where}

-- a block's instructions as they are given, each call a safepoint: no flag and no end of a block has changed a step
abbrev pub given_tree : Emission → Block → Tree
given_tree e b = block_tree e b.insts.items

-- a block's instructions as they are given, on a machine by its flags
abbrev pub flagged_tree : IsaFlags → Emission → Block → Tree
flagged_tree flags e b = tree_for flags (given_tree e b)

-- the blocks of a function as they are given, and as the ends of blocks leave them on a machine by its flags
abbrev pub given_trees : Emission → List Block → List Tree
given_trees e bs = map (given_tree e) bs

abbrev pub emitted_trees : IsaFlags → Emission → List Block → List Tree
emitted_trees flags e bs = folded_trees (map (flagged_tree flags e) bs)

-- an instruction by itself, as it is given, and on a machine by its flags
abbrev pub given_alone : Emission → Inst → List Tree
given_alone e i = prepend e i empty ∷ []

abbrev pub emitted_alone : IsaFlags → Emission → Inst → List Tree
emitted_alone flags e i = tree_for flags (prepend e i empty) ∷ []

-- A step does what a given one does. Or the machine lacks the row relative to the instruction by which that one accesses its operand: then the step is the same
-- operation with the same codes of stops, which needs `%r1`, and whose operand need not be aligned
pub data DoesAsGiven (flags : IsaFlags) (L : Layout) (s given : Step) : Type 0 where
  same : step_kind L s ≡ step_kind L given → DoesAsGiven flags L s given
  loads_address : (needs aligned : Bool) (operation : Registers → Operation) (code : StopKind → Option TrapKind) → flags.no_relative_memory ≡ true → step_kind L given ≡ Performs needs (λ r. aligned_where aligned (operation r)) code → step_kind L s ≡ Performs true operation code → DoesAsGiven flags L s given

-- a relation of the steps of two lists, the first with the first, and so on to the end of both
abbrev pub StepByStep : (Step → Step → Type 0) → List Step → List Step → Type 0
StepByStep R [] [] = Unit {0}
StepByStep R (s ∷ ss) (t ∷ ts) = R s t × StepByStep R ss ts
StepByStep R _ _ = ⊥

-- the steps of a function, as the ends of its blocks leave them on a machine by its flags, do as the given ones
abbrev pub FunctionsDoAsGiven : Type 0
FunctionsDoAsGiven =
    (flags : IsaFlags) (L : Layout) (e : Emission) (bs : List Block) →
    StepByStep (DoesAsGiven flags L) (function_steps (emitted_trees flags e bs)) (function_steps (given_trees e bs))

-- and each of its blocks begins at the number of the given one
abbrev pub BlocksBeginAsGiven : Type 0
BlocksBeginAsGiven = (flags : IsaFlags) (e : Emission) (bs : List Block) (b : ℕ) → first_step (emitted_trees flags e bs) b ≡ first_step (given_trees e bs) b

-- so do the steps of one instruction
abbrev pub InstructionsDoAsGiven : Type 0
InstructionsDoAsGiven =
    (flags : IsaFlags) (L : Layout) (e : Emission) (i : Inst) →
    StepByStep (DoesAsGiven flags L) (function_steps (emitted_alone flags e i)) (function_steps (given_alone e i))
