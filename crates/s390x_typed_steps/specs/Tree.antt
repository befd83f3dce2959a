-- Instructions as a tree: first member, next sibling. Of what runs and of emission this and `Stack` are the only definitions that read the nested vectors of a
-- `Loop`; the text of jobs reads them too. A leaf is the body of one step, and has no frame operands: each is an exact offset from the stack pointer.
pub use Rattle.s390x_typed_steps.specs.StepBody.{Remainder, NothingLeft, BranchLeft, StepBody, Whole, Loaded, Folded, CallStep, NoLoad, TailOpening, TailJump}
use Rattle.std.specs.Prelude.{ℕ, List, [], ◌∷◌}
use Rattle.s390x_inst.specs.Emission.{Emission}
use Rattle.s390x_inst.specs.declared.inst.Inst.{Inst, Row_of-Inst, end_of-Inst, more_of-Inst}
use Rattle.s390x_inst.specs.declared.inst.Inst.TheVariants.{Loop'}
use Rattle.s390x_typed_steps.specs.Calls.{bodies, safepoint, without_map}
use Rattle.s390x_typed_steps.specs.Stack.{state_after}

-- bodies in order, each loop with its members
pub data Tree : Type 0 where
  empty : Tree
  leaf : StepBody → Tree → Tree
  loop_node : (mask : ℕ) (members rest : Tree) → Tree

-- steps before others
abbrev pub leaves : List StepBody → Tree → Tree
leaves [] rest = rest
leaves (b ∷ bs) rest = leaf b (leaves bs rest)

abbrev mutual
  -- an instruction before others, in a state of emission. A `Loop` has its members twice: `all` is read, and `body` is ignored
  pub prepend : Emission → Inst → Tree → Tree
  prepend e (Loop' mask body all) rest = loop_node mask (row_tree (without_map e) all) rest
  prepend e i rest = leaves (bodies e i) rest

  -- the members of a loop, as a tree
  pub row_tree : Emission → {m : _} → Row_of-Inst m → Tree
  row_tree e end_of-Inst = empty
  row_tree e (more_of-Inst i rest) = prepend e i (row_tree (state_after e i) rest)

-- instructions, each in the state behind those before it
abbrev pub tree : Emission → List Inst → Tree
tree e [] = empty
tree e (i ∷ is) = prepend e i (tree (state_after e i) is)

-- the members of a block: the same, and each call is a safepoint
abbrev pub block_tree : Emission → List Inst → Tree
block_tree e [] = empty
block_tree e (i ∷ is) = prepend (safepoint e i) i (block_tree (state_after e i) is)
