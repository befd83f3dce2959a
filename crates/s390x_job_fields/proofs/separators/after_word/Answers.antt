use Rattle.std.proofs.Common.{rules}
use Rattle.s390x_job_fields.specs.Marks.{after_word}
use Rattle.s390x_job_fields.proofs.separators.after_word.Goals as goal

pub returns : goal.returns
unfolding after_word
returns c = search rules
