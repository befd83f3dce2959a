use Rattle.s390x_operands.proofs.Reporting.{reports_next, refused_first}
use Rattle.s390x_operands.proofs.report.report_output_from.Goals as goal

pub returns-in_err-report_def : goal.returns-in_err-report_def
returns-in_err-report_def g c = refused_first _ _ _ _ _ _ _ _ c.from_residual.result c.from_residual.ensures.1 c.in_err-report_def.ensures

pub returns : goal.returns
returns g c = reports_next _ _ _ _ _ _ _ _ _ _ c.in_ok-report_def.ensures (c.report_memory.ensures)
