use Rattle.std.proofs.Common.{ap, map, sym, ◌∙◌, append-nil}
use Rattle.s390x_buffer.specs.State.{handlers_cause}
use Rattle.s390x_buffer.specs.declared.entries.TryHandler.{TryHandler}
use Rattle.s390x_typed_steps.specs.Calls.{handler_of}
use Rattle.s390x_typed_steps.specs.Causes.{labels_cause}
use Rattle.s390x_emit_int.proofs.CallSites.{handlers_none}
use Rattle.s390x_emit_int.proofs.OnlyMemory.{only_memory_of_call}
use Rattle.s390x_emit_int.proofs.calls.record_try.Goals as goal

pub returns-in-Ok-clause-only_memory : goal.returns-in-Ok-clause-only_memory
returns-in-Ok-clause-only_memory c = λ blocks free le none.
    let hs = map handler_of c.args.info.now.exception_handlers.items in
    let given = c.deref-in-Ok.ensures.value ∙ c.in-Ok.ensures ∙ ap (map handler_of) c.deref.ensures.value in
    let labels = sym (ap (labels_cause blocks) (append-nil (map (λ (h : TryHandler). h.label) hs))) ∙ none in
    only_memory_of_call _ _ _ c.add_try_call_site.result c.add_try_call_site.ensures.answer (ap (handlers_cause c.args.sink.now) given ∙ handlers_none c.args.sink.now blocks hs free le labels)
