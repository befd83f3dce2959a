use Rattle.s390x_operands.proofs.Reporting.{reports_then, refused_before}
use Rattle.s390x_operands.proofs.multiple.report_multiple.Goals as goal

pub returns-in_err-report_memory : goal.returns-in_err-report_memory
returns-in_err-report_memory g c = refused_before _ _ _ _ _ _ _ _ c.from_residual.result c.from_residual.ensures.1 c.in_err-report_memory.ensures

pub returns : goal.returns
returns g c = reports_then _ _ _ _ _ _ _ _ _ _ c.in_ok-report_memory.ensures (c.report_range.ensures)
