use Rattle.std.proofs.Common.{rules}
use Rattle.s390x_job_fields.specs.Marks.{word, after_word}
use Rattle.s390x_job_fields.proofs.Words.{behind_word}
use Rattle.s390x_job_fields.proofs.separators.rest_behind.Goals as goal

pub returns : goal.returns
unfolding word after_word
returns c = search (rules, behind_word)
