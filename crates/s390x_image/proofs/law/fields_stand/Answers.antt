use Rattle.s390x_image.proofs.Filled.{filled-field}
use Rattle.s390x_image.proofs.law.fields_stand.Goals as goal

pub returns : goal.returns
returns c = filled-field
