use Rattle.std.proofs.Common.{rules}
use Rattle.s390x_job_fields.specs.Marks.{word, after_word}
use Rattle.s390x_job_fields.proofs.Words.{behind_word}
use Rattle.s390x_job_fields.proofs.cursor.Cursor.word.Goals as goal

pub returns-clause-value : goal.returns-clause-value
unfolding word
returns-clause-value c = search rules

pub returns-clause-after : goal.returns-clause-after
unfolding after_word
returns-clause-after c = search (rules, behind_word)
