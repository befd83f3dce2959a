use Rattle.s390x_text.proofs.Agreement.{rows_agree}
use Rattle.s390x_text.proofs.law.rows_agree.Goals as goal

pub returns : goal.returns
returns c = rows_agree
