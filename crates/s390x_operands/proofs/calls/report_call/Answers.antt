use Rattle.std.proofs.Common.{[], ◌∷◌, ap, sym, map}
use Rattle.s390x_operands.specs.Calls.{argument, call_result, reported_clobbers}
use Rattle.s390x_operands.proofs.Reporting.{reports_then, refused_before, passes_same, refuses_same, reports_same}
use Rattle.s390x_operands.proofs.calls.report_call.Goals as goal

pub returns-in_err-report_destination : goal.returns-in_err-report_destination
returns-in_err-report_destination g c = refused_before _ _ _ _ _ _ _ _ c.from_residual.result c.from_residual.ensures.1 c.in_err-report_destination.ensures

pub returns-in_err-report_call_arguments : goal.returns-in_err-report_call_arguments
returns-in_err-report_call_arguments g c =
    reports_then _ _ _ _ _ _ _ _ _ _ c.in_ok-report_destination.ensures (refused_before _ _ _ _ _ _ _ _ c.from_residual-in_err-report_call_arguments.result c.from_residual-in_err-report_call_arguments.ensures.1 (refuses_same _ _ _ (map argument c.args.info.now.uses.items) _ _ _ _ c.in_err-report_call_arguments.ensures (ap (map argument) (sym c.deref.ensures.value))))

pub returns-in_err-report_call_results : goal.returns-in_err-report_call_results
returns-in_err-report_call_results g c =
    reports_then _ _ _ _ _ _ _ _ _ _ c.in_ok-report_destination.ensures
    (reports_then _ _ _ _ _ _ _ _ _ _ (passes_same _ _ _ (map argument c.args.info.now.uses.items) _ _ _ c.in_ok-report_call_arguments.ensures (ap (map argument) (sym c.deref.ensures.value)))
    (refused_before _ _ _ _ _ _ _ _ c.from_residual-in_err-report_call_results.result c.from_residual-in_err-report_call_results.ensures.1 (refuses_same _ _ _ (map call_result c.args.info.now.defs.items) _ _ _ _ c.in_err-report_call_results.ensures (ap (map call_result) (sym c.deref-2.ensures.value)))))

pub returns : goal.returns
returns g c =
    reports_then _ _ _ _ _ _ _ _ _ _ c.in_ok-report_destination.ensures
    (reports_then _ _ _ _ _ _ _ _ _ _ (passes_same _ _ _ (map argument c.args.info.now.uses.items) _ _ _ c.in_ok-report_call_arguments.ensures (ap (map argument) (sym c.deref.ensures.value)))
    (reports_then _ _ _ _ _ _ _ _ _ _ (passes_same _ _ _ (map call_result c.args.info.now.defs.items) _ _ _ c.in_ok-report_call_results.ensures (ap (map call_result) (sym c.deref-2.ensures.value)))
    (reports_same _ _ _ (reported_clobbers c.args.info.now.clobbers c.args.link.now ∷ []) _ _ _ _ c.report_clobbers.ensures (ap (λ l. reported_clobbers c.args.info.now.clobbers l ∷ []) (sym c.to_reg.ensures)))))
