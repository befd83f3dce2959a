use Rattle.s390x_operands.proofs.Reporting.{reports_then, refused_before}
use Rattle.s390x_operands.proofs.report.report_pair.Goals as goal

pub returns-in_err-report_uses : goal.returns-in_err-report_uses
returns-in_err-report_uses g c = refused_before _ _ _ _ _ _ _ _ c.from_residual.result c.from_residual.ensures.1 c.in_err-report_uses.ensures

pub returns : goal.returns
returns g c = reports_then _ _ _ _ _ _ _ _ _ _ c.in_ok-report_uses.ensures (c.report_halves.ensures)
