-- What the ends of blocks leave stands in the lines of the blocks.
use Rattle.std.proofs.Common.{◌≡◌, ℕ, ◌+◌, ◌-◌, List, [], ◌∷◌, map, Option, Some, None, Bool, true, false, cond, nat_eq, refl, sym, ap, ap₂, ◌∙◌}
use Rattle.std.specs.Prelude.{max}
use Rattle.s390x_base.specs.declared.ir.MachLabel.{MachLabel}
use Rattle.s390x_inst.specs.declared.inst.Inst.{Inst}
use Rattle.s390x_inst.specs.declared.inst.Inst.TheVariants.{Jump, CondBr, Vector}
use Rattle.s390x_job_lines.specs.Contents.{Contents, contents}
use Rattle.s390x_job_lines.specs.Contents.{Whole as Holds}
use Rattle.s390x_job_lines.specs.Instructions.{inst_line}
use Rattle.s390x_job_lines.proofs.Contents.{read_line, contents_read}
use Rattle.s390x_typed_steps.specs.Folding.{BlockBranches, Always, Conditional, branches_of, remainder, body_with_remainder, fold, folded_members, folded_before, next_block, folded_from, folded_trees, peak_from, peak}
use Rattle.s390x_typed_steps.specs.Sizes.{tree_size}
use Rattle.s390x_typed_steps.specs.Tree.{Remainder, NothingLeft, BranchLeft, StepBody, Tree, Whole, Folded, empty, leaf, loop_node}
use Rattle.s390x_tool.proofs.SameTree.{BodyLine, of_line, of_step, body_line, LineTree, none, one, around, lines_tree, line_size, same_size}

-- ---- the last body of a block

abbrev held_branches : Contents → Option BlockBranches
held_branches (Holds i) = branches_of i
held_branches _ = None

branches_held : (i : Inst) → branches_of i ≡ held_branches (contents i)
branches_held (Jump dest) = refl
branches_held i = refl

branches_read : (i : Inst) → branches_of i ≡ held_branches (read_line (inst_line i))
branches_read i = branches_held i ∙ ap held_branches (contents_read i)

-- the instruction that has these branches
abbrev branching : BlockBranches → Inst
branching (Always b) = Jump (record { 0 = b })
branching (Conditional mask taken not_taken) = CondBr (record { 0 = taken }) (record { 0 = not_taken }) mask

-- a line, or its instruction with what is left of its branches
abbrev line_left : Option Remainder → Option BlockBranches → BodyLine → BodyLine
line_left (Some r) (Some branches) l = of_step (Folded r (branching branches))
line_left _ _ l = l

abbrev fold_line : (next : ℕ) → BodyLine → BodyLine
fold_line next (of_line l) = line_left (remainder next (held_branches (read_line l))) (held_branches (read_line l)) (of_line l)
fold_line next (of_step b) = of_step b

jump_told : (dest : MachLabel) (t : Bool) →
    body_line (body_with_remainder (cond t (Some NothingLeft) None) (Jump dest)) ≡ line_left (cond t (Some NothingLeft) None) (Some (Always dest.0)) (of_line (inst_line (Jump dest)))
jump_told dest true = refl
jump_told dest false = refl

choice_told : (taken not_taken : MachLabel) (mask : ℕ) (u t : Bool) →
    body_line (body_with_remainder (cond u (cond t (Some NothingLeft) (Some (BranchLeft mask taken.0))) (cond t (Some (BranchLeft (15 - mask) not_taken.0)) None)) (CondBr taken not_taken mask))
    ≡ line_left (cond u (cond t (Some NothingLeft) (Some (BranchLeft mask taken.0))) (cond t (Some (BranchLeft (15 - mask) not_taken.0)) None)) (Some (Conditional mask taken.0 not_taken.0)) (of_line (inst_line (CondBr taken not_taken mask)))
choice_told taken not_taken mask true true = refl
choice_told taken not_taken mask true false = refl
choice_told taken not_taken mask false true = refl
choice_told taken not_taken mask false false = refl

fold_told : (next : ℕ) (b : StepBody) → body_line (fold next b) ≡ fold_line next (body_line b)
fold_told next (Whole (Jump dest)) = jump_told dest (nat_eq dest.0 next)
fold_told next (Whole (CondBr taken not_taken mask)) = choice_told taken not_taken mask (nat_eq not_taken.0 next) (nat_eq taken.0 next)
fold_told next (Whole (Vector v)) = ap (λ o. line_left (remainder next o) o (of_line (inst_line (Vector v)))) (branches_read (Vector v))
fold_told next (Whole i) = refl
fold_told next b = refl

-- ---- the members of a block

abbrev folded_lines : (next : ℕ) → LineTree → LineTree
folded_lines next none = none
folded_lines next (one b none) = one (fold_line next b) none
folded_lines next (one b (one c rest)) = one b (folded_lines next (one c rest))
folded_lines next (one b (around mask members rest)) = one b (folded_lines next (around mask members rest))
folded_lines next (around mask members rest) = around mask members (folded_lines next rest)

folded_told : (next : ℕ) (t : Tree) → lines_tree (folded_members next t) ≡ folded_lines next (lines_tree t)
folded_told next empty = refl
folded_told next (leaf b empty) = ap (λ l. one l none) (fold_told next b)
folded_told next (leaf b (leaf c rest)) = ap (one (body_line b)) (folded_told next (leaf c rest))
folded_told next (leaf b (loop_node mask members rest)) = ap (one (body_line b)) (folded_told next (loop_node mask members rest))
folded_told next (loop_node mask members rest) = ap (around mask (lines_tree members)) (folded_told next rest)

abbrev lines_before : Option ℕ → LineTree → LineTree
lines_before None t = t
lines_before (Some next) t = folded_lines next t

before_told : (next : Option ℕ) (t : Tree) → lines_tree (folded_before next t) ≡ lines_before next (lines_tree t)
before_told None t = refl
before_told (Some next) t = folded_told next t

-- ---- the blocks

abbrev next_lines : (b : ℕ) → List LineTree → Option ℕ
next_lines b [] = None
next_lines b (t ∷ ts) = Some (b + 1)

next_told : (b : ℕ) (ts : List Tree) → next_block b ts ≡ next_lines b (map lines_tree ts)
next_told b [] = refl
next_told b (t ∷ ts) = refl

abbrev pub lines_from : (b : ℕ) → List LineTree → List LineTree
lines_from b [] = []
lines_from b (t ∷ ts) = lines_before (next_lines b ts) t ∷ lines_from (b + 1) ts

block_told : (b : ℕ) (t : Tree) (ts : List Tree) → lines_tree (folded_before (next_block b ts) t) ≡ lines_before (next_lines b (map lines_tree ts)) (lines_tree t)
block_told b t ts = before_told (next_block b ts) t ∙ ap (λ n. lines_before n (lines_tree t)) (next_told b ts)

from_told : (b : ℕ) (ts : List Tree) → map lines_tree (folded_from b ts) ≡ lines_from b (map lines_tree ts)
from_told b [] = refl
from_told b (t ∷ ts) = ap₂ (λ x xs. x ∷ xs) (block_told b t ts) (from_told (b + 1) ts)

pub folded_blocks_told : (ts : List Tree) → map lines_tree (folded_trees ts) ≡ lines_from 0 (map lines_tree ts)
folded_blocks_told ts = from_told 0 ts

-- blocks with the same lines have the same lines as their ends leave them
pub same_folded : (ts us : List Tree) → map lines_tree ts ≡ map lines_tree us → map lines_tree (folded_trees ts) ≡ map lines_tree (folded_trees us)
same_folded ts us e = folded_blocks_told ts ∙ ap (lines_from 0) e ∙ sym (folded_blocks_told us)

-- ---- the greatest length

abbrev pub line_peak : (b before : ℕ) → List LineTree → ℕ
line_peak b before [] = before
line_peak b before (t ∷ ts) = max (before + line_size t) (line_peak (b + 1) (before + line_size (lines_before (next_lines b ts) t)) ts)

peak_told : (b before : ℕ) (ts : List Tree) → peak_from b before ts ≡ line_peak b before (map lines_tree ts)
peak_told b before [] = refl
peak_told b before (t ∷ ts) =
    let left = folded_before (next_block b ts) t in
    let size : tree_size left ≡ line_size (lines_before (next_lines b (map lines_tree ts)) (lines_tree t)) = same_size left ∙ ap line_size (block_told b t ts) in
    ap₂ (λ x y. max (before + x) y) (same_size t) (peak_told (b + 1) (before + tree_size left) ts ∙ ap (λ n. line_peak (b + 1) (before + n) (map lines_tree ts)) size)

pub same_peak : (ts : List Tree) → peak ts ≡ line_peak 0 0 (map lines_tree ts)
same_peak ts = peak_told 0 0 ts
