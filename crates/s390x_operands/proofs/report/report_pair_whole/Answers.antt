use Rattle.s390x_operands.proofs.Reporting.{reports_next, reports_then, refused_first, refused_before}
use Rattle.s390x_operands.proofs.report.report_pair_whole.Goals as goal

pub returns-in_err-report_use : goal.returns-in_err-report_use
returns-in_err-report_use g c = refused_first _ _ _ _ _ _ _ _ c.from_residual.result c.from_residual.ensures.1 c.in_err-report_use.ensures

pub returns-in_err-report_halves : goal.returns-in_err-report_halves
returns-in_err-report_halves g c = reports_next _ _ _ _ _ _ _ _ _ _ c.in_ok-report_use.ensures (refused_before _ _ _ _ _ _ _ _ c.from_residual-in_err-report_halves.result c.from_residual-in_err-report_halves.ensures.1 c.in_err-report_halves.ensures)

pub returns : goal.returns
returns g c = reports_next _ _ _ _ _ _ _ _ _ _ c.in_ok-report_use.ensures (reports_then _ _ _ _ _ _ _ _ _ _ c.in_ok-report_halves.ensures (c.report_dividend.ensures))
