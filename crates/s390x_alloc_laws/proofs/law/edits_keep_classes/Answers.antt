use Rattle.s390x_alloc_laws.proofs.Keeping.{edits_keep}
use Rattle.s390x_alloc_laws.proofs.law.edits_keep_classes.Goals as goal

pub returns : goal.returns
returns c = edits_keep
