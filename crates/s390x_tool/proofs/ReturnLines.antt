-- No other instructions have the lines of a job that returns at once.
use Rattle.std.proofs.Common.{◌≡◌, Bool, true, false, List, [], ◌∷◌, map, sym, ap, ap₂, ◌∙◌, refl}
use Rattle.std.proofs.lemmas.Bool.{false≢true}
use Rattle.s390x_inst.specs.declared.function.Block.{Block}
use Rattle.s390x_inst.specs.declared.inst.Inst.{Inst}
use Rattle.s390x_inst.specs.declared.inst.Inst.TheVariants as I
use Rattle.s390x_typed_steps.specs.Tree.{Tree}
use Rattle.s390x_job_lines.specs.Contents.{Contents, Whole, contents}
use Rattle.s390x_job_lines.specs.Instructions.{inst_line}
use Rattle.s390x_job_lines.specs.Line.{Line}
use Rattle.s390x_job_lines.proofs.Contents.{same_contents}
use Rattle.s390x_job.specs.Items.{end_line}
use Rattle.s390x_job.specs.Jobs.{IsJob}
use Rattle.s390x_job.specs.Same.{SameJob}
use Rattle.s390x_job.specs.declared.job.Job.{Job}
use Rattle.s390x_job.proofs.PlainJob.{plain_job, vec}
use Rattle.s390x_tool.proofs.Frameless.{raw_block, raw_prepend, raw_tree}
use Rattle.s390x_tool.proofs.ReturnJob.{is_job, job, return_inst, return_line}
use Rattle.s390x_tool.proofs.SameJob.{same_found}
use Rattle.s390x_tool.proofs.SameTree.{LineTree, lines_tree, none, of_line, one}

-- the instruction that is held whole; some instruction for anything else
abbrev held : Contents → Inst
held (Whole i) = i
held c = I.Nop0

-- what holds no list is told by what it holds
whole_held : (i j : Inst) → contents i ≡ Whole j → i ≡ j
whole_held (I.IndirectBr rn targets) j e = absurd cc
whole_held (I.JTSequence index other mask targets) j e = absurd cc
whole_held (I.Loop' mask body members) j e = absurd cc
whole_held (I.Call link info) j e = absurd cc
whole_held (I.ReturnCall info) j e = absurd cc
whole_held (I.Args args) j e = absurd cc
whole_held (I.Rets rets) j e = absurd cc
whole_held i j e = ap held e

return_told : (i : Inst) → inst_line i ≡ return_line → i ≡ return_inst
return_told i e = whole_held i return_inst (same_contents i return_inst e)

-- a tree of lines that begins with an instruction: its line, and what stands behind it
abbrev IsAhead : LineTree → Line → LineTree → Type 0
IsAhead t l rest = t ≡ one (of_line l) rest

abbrev is_none : LineTree → Bool
is_none none = true
is_none t = false

abbrev first_line : LineTree → Line
first_line (one (of_line l) rest) = l
first_line t = end_line

abbrev behind_first : LineTree → LineTree
behind_first (one b rest) = rest
behind_first t = none

some_ahead : (i : Inst) (t : Tree) → is_none (lines_tree (raw_prepend i t)) ≡ false
some_ahead (I.Loop' mask body members) t = refl
some_ahead i t = refl

first_told : (i : Inst) (t : Tree) (l : Line) (rest : LineTree) → IsAhead (lines_tree (raw_prepend i t)) l rest → (inst_line i ≡ l) × (lines_tree t ≡ rest)
first_told (I.Loop' mask body members) t l rest e = absurd cc
first_told i t l rest e = (ap first_line e, ap behind_first e)

none_told : (is : List Inst) → lines_tree (raw_tree is) ≡ none → is ≡ []
none_told [] e = refl
none_told (i ∷ is) e = absurd (false≢true (sym (some_ahead i (raw_tree is)) ∙ ap is_none e))

alone_told : (is : List Inst) → IsAhead (lines_tree (raw_tree is)) return_line none → is ≡ return_inst ∷ []
alone_told [] e = absurd cc
alone_told (i ∷ is) e = let h = first_told i (raw_tree is) return_line none e in ap₂ (λ x xs. x ∷ xs) (return_told i h.0) (none_told is h.1)

-- the one block, and its one instruction
pub record OneReturn (bs : List Block) : Type 0 where
  pub block : Block
  pub alone : bs ≡ block ∷ []
  pub insts : block.insts.items ≡ return_inst ∷ []

block_told : (bs : List Block) → map lines_tree (map raw_block bs) ≡ one (of_line return_line) none ∷ [] → OneReturn bs
block_told (b ∷ []) e = record { block = b; alone = refl; insts = alone_told b.insts.items cc }
block_told bs e = absurd cc

pub same_return : (j : Job) → IsJob j → SameJob j job → OneReturn j.function.blocks.items
unfolding vec plain_job job
same_return j is e = block_told j.function.blocks.items (ap (λ f. f.blocks) (same_found j job is is_job e))
