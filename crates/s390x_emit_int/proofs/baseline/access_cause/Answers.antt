use Rattle.std.proofs.Common.{Some, sym, ap, ◌∙◌}
use Rattle.s390x_address.specs.Rows.{memory_instruction_of}
use Rattle.s390x_base.specs.declared.error.EmitError.TheVariants.{BadOperator}
use Rattle.s390x_typed_steps.specs.Causes.{first_emit_cause, declared_in, memory_cause_or}
use Rattle.s390x_typed_steps.specs.Memory.{loaded_memory}
use Rattle.s390x_typed_steps.specs.Resolved.{resolved_instruction}
use Rattle.s390x_emit_int.proofs.AddressFirst.{own_of}
use Rattle.s390x_emit_int.proofs.Resolving.{lacks_resolved}
use Rattle.s390x_emit_int.proofs.baseline.access_cause.Goals as goal

pub returns-in-Some : goal.returns-in-Some
returns-in-Some c =
    let e = c.args.state.now in
    let i = c.args.inst.now in
    let own = memory_cause_or (declared_in c.args.sink.now) (loaded_memory (resolved_instruction e i)) (Some BadOperator) in
    ap (λ f. first_emit_cause f own) (c.in-Some.ensures ∙ sym (lacks_resolved c.args.flags e i))

pub returns-in-None : goal.returns-in-None
returns-in-None c =
    let e = c.args.state.now in
    let i = c.args.inst.now in
    let D = declared_in c.args.sink.now in
    let own = memory_cause_or D (loaded_memory (resolved_instruction e i)) (Some BadOperator) in
    c.cause.ensures ∙ sym (own_of e D i (memory_instruction_of c.args.found.now) c.requires) ∙ ap (λ f. first_emit_cause f own) (c.in-None.ensures ∙ sym (lacks_resolved c.args.flags e i))
