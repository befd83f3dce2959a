use Rattle.s390x_machine.proofs.RowSemantics.{row_means}
use Rattle.s390x_machine.proofs.law.each_row_has_semantics.Goals as goal

pub returns : goal.returns
returns c = row_means
