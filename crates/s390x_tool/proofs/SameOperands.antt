-- Two jobs with the same lines have the same first cause by which operands aren't reported: it stands in what the instructions hold.
use Rattle.std.proofs.Common.{◌≡◌, ℕ, ◌+◌, Bool, true, false, List, [], ◌∷◌, ◌++◌, map, Some, None, refl, sym, ap, ap₂, ◌∙◌}
use Rattle.std.specs.Prelude.{Option, ◌||◌}
use Rattle.s390x_base.specs.declared.regs.Reg.{Reg}
use Rattle.s390x_base.specs.declared.regs.Reg.TheVariants.{Real, Virtual}
use Rattle.s390x_base.specs.declared.sets.PRegSet.{PRegSet}
use Rattle.s390x_inst.specs.declared.calls.CallInfo.{CallInfo}
use Rattle.s390x_inst.specs.declared.function.Block.{Block}
use Rattle.s390x_inst.specs.declared.inst.Inst.{Inst, Row_of-Inst, end_of-Inst, more_of-Inst}
use Rattle.s390x_inst.specs.declared.inst.Inst.TheVariants.{Loop', Call}
use Rattle.s390x_typed_steps.specs.Tree.{Tree, empty, leaf, loop_node}
use Rattle.s390x_typed_steps.specs.Tree as Body
use Rattle.s390x_operands.specs.declared.constraint.OperandError.{OperandError}
use Rattle.s390x_operands.specs.declared.constraint.Reported.{Reported}
use Rattle.s390x_operands.specs.declared.constraint.Reported.TheVariants.{Fixed}
use Rattle.s390x_operands.specs.Visits.{item_cause}
use Rattle.s390x_operands.specs.Requests.{cause_of, first_operand_cause, reported_use, scratch_request}
use Rattle.s390x_operands.specs.Calls.{argument, call_requests, call_result, reported_clobbers, destination_requests, reported_argument, reported_result}
use Rattle.s390x_operands.specs.Operands.{is_loop, operands_cause, requests, row_requests}
use Rattle.s390x_job_lines.specs.Contents.{Contents, Whole, Branches, Table, LoopOf, Calls, TailCalls, Arguments, Results, contents}
use Rattle.s390x_job_lines.proofs.Contents.{same_contents}
use Rattle.s390x_listing.specs.Listings.{each}
use Rattle.s390x_listing.specs.Operands.{block_operands, operands_line}
use Rattle.s390x_job.specs.Jobs.{IsJob}
use Rattle.s390x_job.specs.Same.{SameJob}
use Rattle.s390x_job.specs.declared.job.Job.{Job}
use Rattle.s390x_tool.specs.Answers.{operands_cause_of}
use Rattle.s390x_tool.proofs.SameTree.{lines_tree}
use Rattle.s390x_tool.proofs.Frameless.{raw_prepend, raw_row, raw_tree, raw_block}
use Rattle.s390x_tool.proofs.SameJob.{same_found}

-- ---- requests one behind the other

first_of_three : (a b c : Option OperandError) → first_operand_cause a (first_operand_cause b c) ≡ first_operand_cause (first_operand_cause a b) c
first_of_three None b c = refl
first_of_three (Some e) b c = refl

cause_append : (d : Bool) (xs ys : List (Option Reported)) → cause_of d (xs ++ ys) ≡ first_operand_cause (cause_of d xs) (cause_of d ys)
cause_append d (Some x ∷ xs) ys =
    ap (first_operand_cause (item_cause d x)) (cause_append d xs ys) ∙ first_of_three (item_cause d x) (cause_of d xs) (cause_of d ys)
cause_append d xs ys = refl

cause_behind : (d : Bool) (xs ys zs : List (Option Reported)) → cause_of d ys ≡ cause_of d zs → cause_of d (xs ++ ys) ≡ cause_of d (xs ++ zs)
cause_behind d xs ys zs e = cause_append d xs ys ∙ ap (first_operand_cause (cause_of d xs)) e ∙ sym (cause_append d xs zs)

-- ---- what an instruction holds decides

-- a call's link has to be real
abbrev link_request : Reg → Option Reported
link_request (Real p) = Some (Fixed p)
link_request (Virtual n c) = None

-- requests with the causes of an instruction's that holds this; of a call they don't name the registers that it overwrites
abbrev held_requests : Contents → List (Option Reported)
held_requests (Whole i) = requests i
held_requests (Branches rn targets) = reported_use rn ∷ []
held_requests (Table index default condition targets) = reported_use index ∷ scratch_request ∷ []
held_requests (LoopOf condition) = []
held_requests (Calls c) = destination_requests c.dest ++ (map argument c.uses ++ (map call_result c.defs ++ link_request c.link ∷ []))
held_requests (TailCalls dest uses size) = destination_requests dest ++ map argument uses
held_requests (Arguments args) = map reported_argument args
held_requests (Results rets) = map reported_result rets

link_cause : (d : Bool) (s : PRegSet) (link : Reg) → cause_of d (reported_clobbers s link ∷ []) ≡ cause_of d (link_request link ∷ [])
link_cause d s (Real p) = refl
link_cause d s (Virtual n c) = refl

call_cause : (d : Bool) (link : Reg) (info : CallInfo) → cause_of d (call_requests link info) ≡ cause_of d (held_requests (contents (Call link info)))
call_cause d link info =
    cause_behind d (destination_requests info.dest) _ _
    (cause_behind d (map argument info.uses.items) _ _ (cause_behind d (map call_result info.defs.items) _ _ (link_cause d info.clobbers link)))

-- ---- trees

-- the first cause of the instructions of a tree as it is given: each of its bodies is a whole instruction
abbrev tree_cause : Bool → Tree → Option OperandError
tree_cause d empty = None
tree_cause d (leaf (Body.Whole i) rest) = first_operand_cause (cause_of d (held_requests (contents i))) (tree_cause d rest)
tree_cause d (leaf b rest) = tree_cause d rest
tree_cause d (loop_node mask members rest) = first_operand_cause (tree_cause true members) (tree_cause d rest)

or_true : (b : Bool) → b || true ≡ true
or_true true = refl
or_true false = refl

mutual
  prepend_cause : (d : Bool) (i : Inst) (t : Tree) → tree_cause d (raw_prepend i t) ≡ first_operand_cause (operands_cause d i) (tree_cause d t)
  prepend_cause d (Loop' mask body all) t = ap (λ c. first_operand_cause c (tree_cause d t)) (row_cause all)
  prepend_cause d (Call link info) t = ap (λ c. first_operand_cause c (tree_cause d t)) (sym (call_cause d link info))
  prepend_cause d i t = refl

  row_cause : {m : _} (r : Row_of-Inst m) → tree_cause true (raw_row r) ≡ cause_of true (row_requests r)
  row_cause end_of-Inst = refl
  row_cause (more_of-Inst i rest) =
      prepend_cause true i (raw_row rest)
      ∙ ap₂ first_operand_cause (ap (λ b. cause_of b (requests i)) (or_true (is_loop i))) (row_cause rest)
      ∙ sym (cause_append true (requests i) (row_requests rest))

insts_cause : (k : ℕ) (is : List Inst) → (each (λ n i. operands_line i) k is).cause ≡ tree_cause false (raw_tree is)
insts_cause k [] = refl
insts_cause k (i ∷ is) = ap (first_operand_cause (operands_cause false i)) (insts_cause (k + 1) is) ∙ sym (prepend_cause false i (raw_tree is))

-- the first cause of blocks
abbrev trees_cause : List Tree → Option OperandError
trees_cause [] = None
trees_cause (t ∷ ts) = first_operand_cause (tree_cause false t) (trees_cause ts)

blocks_cause : (k : ℕ) (bs : List Block) → (each block_operands k bs).cause ≡ trees_cause (map raw_block bs)
blocks_cause k [] = refl
blocks_cause k (b ∷ bs) = ap₂ first_operand_cause (insts_cause 0 b.insts.items) (blocks_cause (k + 1) bs)

-- ---- the same lines

same_tree : (d : Bool) (t u : Tree) → lines_tree t ≡ lines_tree u → tree_cause d t ≡ tree_cause d u
same_tree d empty empty e = refl
same_tree d (leaf (Body.Whole i) t) (leaf (Body.Whole j) u) e =
    ap₂ first_operand_cause (ap (λ c. cause_of d (held_requests c)) (same_contents i j cc)) (same_tree d t u cc)
same_tree d (loop_node m a t) (loop_node n b u) e = ap₂ first_operand_cause (same_tree true a b cc) (same_tree d t u cc)
same_tree d (leaf (Body.Whole i) t) (leaf b u) e = absurd cc
same_tree d (leaf a t) (leaf (Body.Whole j) u) e = absurd cc
same_tree d (leaf a t) (leaf b u) e = same_tree d t u cc
same_tree d t u e = absurd cc

same_trees : (ts us : List Tree) → map lines_tree ts ≡ map lines_tree us → trees_cause ts ≡ trees_cause us
same_trees [] [] e = refl
same_trees (t ∷ ts) (u ∷ us) e = ap₂ first_operand_cause (same_tree false t u cc) (same_trees ts us cc)
same_trees ts us e = absurd cc

pub same_operands_cause : (j k : Job) → IsJob j → IsJob k → SameJob j k → operands_cause_of j ≡ operands_cause_of k
same_operands_cause j k a b e =
    blocks_cause 0 j.function.blocks.items
    ∙ same_trees (map raw_block j.function.blocks.items) (map raw_block k.function.blocks.items) (ap (λ f. f.blocks) (same_found j k a b e))
    ∙ sym (blocks_cause 0 k.function.blocks.items)
