use Rattle.s390x_job_fields.proofs.Names.{at_row}
use Rattle.s390x_job_fields.proofs.word.name_at.Goals as goal

pub returns : goal.returns
returns g c = at_row c.args.names.now c.args.n _ c.requires
