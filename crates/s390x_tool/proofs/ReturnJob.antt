-- A job that returns at once: that it is a job, and its text.
use Rattle.std.proofs.Common.{◌≡◌, List, [], ◌∷◌, ◌++◌, refl, ap, ◌∙◌, arith}
use Rattle.std.specs.Prelude.{codes}
use Rattle.std.specs.Fmt.{decimal}
use Rattle.std.proofs.lemmas.Fmt.{decimal_digit, decimal_step}
use Rattle.s390x_base.specs.Registers.{general}
use Rattle.s390x_base.specs.declared.regs.Reg.TheVariants.{Real}
use Rattle.s390x_inst.specs.declared.function.Block.{Block}
use Rattle.s390x_inst.specs.declared.inst.Inst.{Inst}
use Rattle.s390x_inst.specs.declared.inst.Inst.TheVariants.{Ret}
use Rattle.s390x_job_lines.specs.Instructions.{inst_line}
use Rattle.s390x_job_lines.specs.Line.{Line}
use Rattle.s390x_job.specs.Completions.{text_of_lines}
use Rattle.s390x_job.specs.Items.{block_line, end_line}
use Rattle.s390x_job.specs.Jobs.{IsJob, job_lines, lines_text, text_of_job}
use Rattle.s390x_job.specs.declared.job.Job.{Job}
use Rattle.s390x_job.proofs.PlainJob.{plain_is_job, plain_job, plain_lines, vec}

abbrev pub return_inst : Inst
return_inst = Ret (Real (general 14))

abbrev pub return_line : Line
return_line = inst_line return_inst

abbrev blocks : List Block
blocks = record { insts = vec (return_inst ∷ []) (omega arith) } ∷ []

unfoldable pub job : Job
job = plain_job blocks (omega arith)

lines_are : job_lines job ≡ block_line ∷ return_line ∷ end_line ∷ []
unfolding vec job
lines_are = plain_lines blocks _

pub is_job : IsJob job
unfolding vec job
is_job = plain_is_job blocks _ (record { kinds_fit = refl; fields_fit = tt }, (record { kinds_fit = refl; fields_fit = (omega arith, tt) }, (record { kinds_fit = refl; fields_fit = tt }, tt))) refl

fourteen : decimal 14 ≡ codes "14"
fourteen = decimal_step 14 (omega arith) (omega arith) ∙ ap (λ ds. ds ++ 52 ∷ []) (decimal_digit 1 (omega arith))

told : lines_text (block_line ∷ return_line ∷ end_line ∷ []) ≡ text_of_lines (codes "block" ∷ codes "Ret %r14" ∷ codes "end" ∷ [])
told = rw fourteen refl

pub job_text : text_of_job job ≡ text_of_lines (codes "block" ∷ codes "Ret %r14" ∷ codes "end" ∷ [])
job_text = ap lines_text lines_are ∙ told
