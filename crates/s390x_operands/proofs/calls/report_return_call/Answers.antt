use Rattle.std.proofs.Common.{ap, sym, map}
use Rattle.s390x_operands.specs.Calls.{argument}
use Rattle.s390x_operands.proofs.Reporting.{reports_then, refused_before, reports_same}
use Rattle.s390x_operands.proofs.calls.report_return_call.Goals as goal

pub returns-in_err-report_destination : goal.returns-in_err-report_destination
returns-in_err-report_destination g c = refused_before _ _ _ _ _ _ _ _ c.from_residual.result c.from_residual.ensures.1 c.in_err-report_destination.ensures

pub returns : goal.returns
returns g c =
    reports_then _ _ _ _ _ _ _ _ _ _ c.in_ok-report_destination.ensures (reports_same _ _ _ (map argument c.args.info.now.uses.items) _ _ _ _ c.report_call_arguments.ensures (ap (map argument) (sym c.deref.ensures.value)))
