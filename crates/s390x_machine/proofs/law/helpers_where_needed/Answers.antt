use Rattle.s390x_machine.proofs.Helpers.{helped_where_needed}
use Rattle.s390x_machine.proofs.law.helpers_where_needed.Goals as goal

pub returns : goal.returns
returns c = helped_where_needed
