-- How many bytes a tree of instructions has.
use Rattle.std.specs.Prelude.{ℕ, ◌+◌, List, [], ◌∷◌}
use Rattle.s390x_inst.specs.declared.inst.Inst.{Inst}
use Rattle.s390x_typed_steps.specs.Tree.{StepBody, Tree, Whole, empty, leaf, loop_node}
use Rattle.s390x_typed_steps.specs.Steps.{step_of}
use Rattle.s390x_typed_steps.specs.Parts.{step_size}

-- how many bytes the step of a body has
abbrev pub body_size : StepBody → ℕ
body_size b = step_size (step_of 0 b)

-- how many bytes an instruction has that is no `Loop`
abbrev pub instruction_size : Inst → ℕ
instruction_size i = body_size (Whole i)

-- a loop's back branch has 6 bytes
abbrev pub tree_size : Tree → ℕ
tree_size empty = 0
tree_size (leaf b rest) = body_size b + tree_size rest
tree_size (loop_node mask members rest) = tree_size members + 6 + tree_size rest

-- how many bytes the blocks have, without the constants
abbrev pub blocks_size : List Tree → ℕ
blocks_size [] = 0
blocks_size (t ∷ ts) = tree_size t + blocks_size ts
