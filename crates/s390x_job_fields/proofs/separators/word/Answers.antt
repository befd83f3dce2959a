use Rattle.std.proofs.Common.{rules}
use Rattle.s390x_job_fields.specs.Marks.{word}
use Rattle.s390x_job_fields.proofs.separators.word.Goals as goal

pub returns : goal.returns
unfolding word
returns c = search rules
