use Rattle.std.proofs.Common.{ap, sym, map, ◌∙◌}
use Rattle.s390x_inst.specs.declared.calls.TryCallHandler.{TryCallHandler}
use Rattle.s390x_typed_steps.specs.Calls.{handler_of}
use Rattle.s390x_typed_steps.specs.Causes.{labels_cause}
use Rattle.s390x_emit_int.proofs.CallSites.{site_names, try_labels}
use Rattle.s390x_emit_int.proofs.calls.sites_cause.Goals as goal

pub returns-in-Some : goal.returns-in-Some
returns-in-Some c = λ state.
    c.handlers_cause.ensures
    ∙ ap (λ hs. labels_cause c.args.blocks (map (λ (h : TryCallHandler). (handler_of h).label) hs)) c.deref.ensures.value
    ∙ ap (λ t. labels_cause c.args.blocks (try_labels t)) (sym c.in-Some.is)
    ∙ ap (labels_cause c.args.blocks) (sym (site_names state c.args.info.now))

pub returns-in-None : goal.returns-in-None
returns-in-None c = λ state.
    ap (λ t. labels_cause c.args.blocks (try_labels t)) (sym c.in-None.is)
    ∙ ap (labels_cause c.args.blocks) (sym (site_names state c.args.info.now))
