-- The lines of the examples are texts of planned jobs.
use Rattle.std.proofs.Common.{◌≡◌, List, [], ◌∷◌, ◌++◌, drop, length, map, refl, sym, ap, ap₂, ◌∙◌, arith, length-append}
use Rattle.std.proofs.lemmas.Fmt.{decimal_digit}
use Rattle.s390x_base.specs.Registers.{general}
use Rattle.s390x_base.specs.declared.regs.Reg.TheVariants.{Real, Virtual}
use Rattle.s390x_base.specs.declared.regs.RegClass.TheVariants.{Int}
use Rattle.s390x_job.specs.Completions.{text_of_lines}
use Rattle.s390x_job.specs.Items.{end_line}
use Rattle.s390x_job.specs.Jobs.{IsJob, blocks_lines, job_lines, lines_text, text_of_job}
use Rattle.s390x_job.specs.declared.job.Job.{Job}
use Rattle.s390x_job.proofs.PlainJob.{plain_is_job, plain_job, plain_lines, vec}
use Rattle.s390x_inst.specs.declared.function.Block.{Block}
use Rattle.s390x_job_lines.specs.Line.{Line}
use Rattle.s390x_alloc.specs.declared.plan.BlockPlan.{BlockPlan}
use Rattle.s390x_alloc.specs.declared.plan.Place.TheVariants.{Reg as InReg, Slot}
use Rattle.s390x_alloc.specs.declared.plan.Edit.TheVariants.{Move, Step}
use Rattle.s390x_alloc.specs.declared.plan.Plan.{Plan}
use Rattle.s390x_job_plan.specs.Example.{NoBlocksAreText, SomeLinesAreText, no_blocks, some_lines}
use Rattle.s390x_job_plan.specs.Lines.{Closing, line_text}
use Rattle.s390x_job_plan.specs.Text.{IsPlanned, SamePlanned, blocks_lines as plan_blocks_lines, plan_lines, text_of_planned}
use Rattle.s390x_job_plan.specs.declared.planned_job.PlannedJob.{PlannedJob}
use Rattle.s390x_job_plan.proofs.Parts.{one_planned}

-- no line but the last
abbrev empty_job : Job
empty_job = plain_job [] (omega arith)

-- one block
plan : Plan
plan = record {
  blocks = vec (record {
    entry = vec (record { place = InReg (general 2); vreg = Virtual 0 Int } ∷ []) (omega arith);
    edits = vec (Move (Slot 1) (InReg (general 2)) ∷ Step (vec (Real (general 3) ∷ Virtual 0 Int ∷ []) (omega arith)) ∷ []) (omega arith);
  } ∷ []) (omega arith);
}

empty_lines : job_lines empty_job ≡ end_line ∷ []
empty_lines = plain_lines [] _

is_job : IsJob empty_job
is_job = plain_is_job [] _ (record { kinds_fit = refl; fields_fit = tt }, tt) refl

plan_text : map line_text (plan_lines plan.blocks.items) ≡ drop 1 some_lines
unfolding vec plan
plan_text = rw (decimal_digit 2 (omega arith), decimal_digit 0 (omega arith), decimal_digit 1 (omega arith), decimal_digit 3 (omega arith)) refl

pub some_lines_are_text : SomeLinesAreText
unfolding vec plan
some_lines_are_text =
    let job_text : text_of_job empty_job ≡ lines_text (end_line ∷ []) = ap lines_text empty_lines in
    (record { job = empty_job; plan = plan }, (is_job, (tt, (tt, ((omega arith, omega arith), ((omega arith, omega arith), ((omega arith, (omega arith, tt)), (tt, tt))))))), ap₂ (λ a b. a ++ b) job_text (ap text_of_lines plan_text))

-- ---- no blocks

none : PlannedJob
none = record { job = empty_job; plan = record { blocks = vec [] (omega arith) } }

none_is : IsPlanned none
unfolding vec none
none_is = (is_job, (tt, (tt, tt)))

none_spelled : text_of_planned none ≡ text_of_lines no_blocks
unfolding vec none
none_spelled = let job_text : text_of_job empty_job ≡ lines_text (end_line ∷ []) = ap lines_text empty_lines in ap (λ t. t ++ text_of_lines (drop 1 no_blocks)) job_text

no_block : (head : List Line) (bs : List Block) → head ++ (blocks_lines bs ++ end_line ∷ []) ≡ end_line ∷ [] → bs ≡ []
no_block head [] e = refl
no_block head (b ∷ bs) e =
    absurd (omega (arith, ap length e, length-append head (blocks_lines (b ∷ bs) ++ end_line ∷ []), length-append (blocks_lines (b ∷ bs)) (end_line ∷ [])))

no_plan : (bs : List BlockPlan) → plan_lines bs ≡ plan_lines [] → bs ≡ []
no_plan [] e = refl
no_plan (b ∷ bs) e = absurd (omega (arith, ap length e, length-append (plan_blocks_lines (b ∷ bs)) (Closing ∷ [])))

same_none : (p : PlannedJob) → IsPlanned p → text_of_planned p ≡ text_of_lines no_blocks → SamePlanned p none
same_none p is e = one_planned p none is none_is (e ∙ sym none_spelled)

pub no_blocks_are_text : NoBlocksAreText
unfolding vec none
no_blocks_are_text =
    record {
      planned = (none, none_is, none_spelled);
      job_blocks = λ p is e. no_block _ p.job.function.blocks.items ((same_none p is e).0 ∙ empty_lines);
      plan_blocks = λ p is e. no_plan p.plan.blocks.items (same_none p is e).1;
    }
