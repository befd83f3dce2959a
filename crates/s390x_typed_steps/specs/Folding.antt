-- What the end of a block leaves of its last step, where that is a branch to blocks: a branch to the next block is not needed.
use Rattle.std.specs.Prelude.{ℕ, ◌+◌, ◌-◌, List, [], ◌∷◌, Option, Some, None, cond, nat_eq, max}
use Rattle.s390x_inst.specs.declared.inst.Inst.{Inst}
use Rattle.s390x_inst.specs.declared.inst.Inst.TheVariants.{Jump, CondBr}
use Rattle.s390x_typed_steps.specs.Tree.{Remainder, NothingLeft, BranchLeft, StepBody, Whole, Folded, Tree, empty, leaf, loop_node}
use Rattle.s390x_typed_steps.specs.Sizes.{tree_size}

-- the branches of an instruction to blocks that may be folded
pub data BlockBranches : Type 0 where
  Always : (block : ℕ) → BlockBranches
  Conditional : (mask taken not_taken : ℕ) → BlockBranches

-- a `Jump` has one, a `CondBr` two, another instruction none
abbrev pub branches_of : Inst → Option BlockBranches
branches_of (Jump dest) = Some (Always dest.0)
branches_of (CondBr taken not_taken mask) = Some (Conditional mask taken.0 not_taken.0)
branches_of _ = None

-- what is left of them before the block `next`; none where all stay. Where a conditional branch alone leads there, its inverse to the other block is left
abbrev pub remainder : (next : ℕ) → Option BlockBranches → Option Remainder
remainder next None = None
remainder next (Some (Always b)) = cond (nat_eq b next) (Some NothingLeft) None
remainder next (Some (Conditional mask taken not_taken)) = cond (nat_eq not_taken next)
    (cond (nat_eq taken next) (Some NothingLeft) (Some (BranchLeft mask taken)))
    (cond (nat_eq taken next) (Some (BranchLeft (15 - mask) not_taken)) None)

-- an instruction with what is left of its branches
abbrev pub body_with_remainder : Option Remainder → Inst → StepBody
body_with_remainder None i = Whole i
body_with_remainder (Some r) i = Folded r i

-- the last body of a block, before the block `next`: only a `Jump` or a `CondBr` is folded; a call with a try ends with a `Jump`
abbrev pub fold : (next : ℕ) → StepBody → StepBody
fold next (Whole i) = body_with_remainder (remainder next (branches_of i)) i
fold next b = b

-- the members of a block, before the block `next`: the last one alone is folded
abbrev pub folded_members : (next : ℕ) → Tree → Tree
folded_members next empty = empty
folded_members next (leaf b empty) = leaf (fold next b) empty
folded_members next (leaf b (leaf c rest)) = leaf b (folded_members next (leaf c rest))
folded_members next (leaf b (loop_node mask members rest)) = leaf b (folded_members next (loop_node mask members rest))
folded_members next (loop_node mask members rest) = loop_node mask members (folded_members next rest)

-- the members of a block, folded before the next block, if there is one
abbrev pub folded_before : Option ℕ → Tree → Tree
folded_before None t = t
folded_before (Some next) t = folded_members next t

-- the block behind number b, where others stand behind it
abbrev pub next_block : (b : ℕ) → List Tree → Option ℕ
next_block b [] = None
next_block b (t ∷ ts) = Some (b + 1)

-- the blocks from number b on
abbrev pub folded_from : (b : ℕ) → List Tree → List Tree
folded_from b [] = []
folded_from b (t ∷ ts) = folded_before (next_block b ts) t ∷ folded_from (b + 1) ts

-- the blocks of a function
abbrev pub folded_trees : List Tree → List Tree
folded_trees ts = folded_from 0 ts

-- the greatest length while the blocks from number b on are emitted behind so many bytes: a block's last step counts in full until its block has ended
abbrev pub peak_from : (b before : ℕ) → List Tree → ℕ
peak_from b before [] = before
peak_from b before (t ∷ ts) = max (before + tree_size t) (peak_from (b + 1) (before + tree_size (folded_before (next_block b ts) t)) ts)

-- that of a function
abbrev pub peak : List Tree → ℕ
peak ts = peak_from 0 0 ts
