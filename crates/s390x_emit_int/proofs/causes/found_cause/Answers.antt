use Rattle.std.proofs.Common.{Some, ap, sym, ◌∙◌}
use Rattle.s390x_base.specs.declared.error.EmitError.TheVariants.{BadRegister}
use Rattle.s390x_typed_steps.specs.Causes.{unless}
use Rattle.s390x_emit_int.proofs.Single.{ok_code, err_code}
use Rattle.s390x_emit_int.proofs.causes.found_cause.Goals as goal

pub returns-in-Ok : goal.returns-in-Ok
returns-in-Ok c = λ x is. ap (λ t. unless t BadRegister) (sym (ok_code x.operands_valid x.row c.in-Ok.field-0 (sym c.in-Ok.is ∙ is)).0)

pub returns-in-Err : goal.returns-in-Err
returns-in-Err c = λ x is.
    let own = err_code x.operands_valid x.row c.in-Err.error (sym c.in-Err.is ∙ is) in
    ap Some own.1 ∙ ap (λ t. unless t BadRegister) (sym own.0)
