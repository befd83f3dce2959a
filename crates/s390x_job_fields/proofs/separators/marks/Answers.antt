use Rattle.std.proofs.Common.{ap, ◌∙◌, arith}
use Rattle.std.specs.Prelude.{slice_index_or, false}
use Rattle.s390x_job_fields.specs.declared.separators.TheConstants.{MARKS}
use Rattle.s390x_job_fields.proofs.Tables.{mark_at}
use Rattle.s390x_job_fields.proofs.separators.marks.Goals as goal

pub returns : goal.returns
returns c =
    ap (λ k. slice_index_or MARKS k false) c.from.ensures ∙ mark_at c.args.x (let fits = c.ranges.x.fits in omega arith)
