use Rattle.s390x_text.proofs.RowAgreement.{simple_rows}
use Rattle.s390x_text.proofs.TreeAgreement.{inst_agrees}
use Rattle.s390x_text.proofs.row_laws.texts_have_rows_as_bytes.Goals as goal

pub returns-clause-exactly : goal.returns-clause-exactly
returns-clause-exactly c = simple_rows

pub returns-clause-in_order : goal.returns-clause-in_order
returns-clause-in_order c = inst_agrees
