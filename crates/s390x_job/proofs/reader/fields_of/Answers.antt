use Rattle.std.proofs.Common.{length, drop, ap, ◌∙◌}
use Rattle.s390x_job_fields.proofs.Words.{behind_word}
use Rattle.s390x_job.proofs.reader.fields_of.Goals as goal

pub returns : goal.returns
returns c =
    let w = c.args.w.now in
    c.new.ensures ∙ c.tail.ensures ∙ ap (λ u. drop (length u) w) c.requires ∙ behind_word w
