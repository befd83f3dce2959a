use Rattle.std.proofs.Common.{◌∙◌, ap, sym, ◌++◌}
use Rattle.s390x_base.specs.declared.error.EmitError.TheVariants.{BadOperator}
use Rattle.s390x_typed_steps.specs.Operands.{Finalized, resolved_operand, with_address_loaded, with_widened}
use Rattle.s390x_typed_steps.specs.Causes.{first_emit_cause, unless}
use Rattle.s390x_address.specs.Lowerings.{far_helper, address_helper, offset_cause}
use Rattle.s390x_address.proofs.Planning.{resolved_form}
use Rattle.s390x_address.proofs.lowering.lower_operand.Goals as goal

pub returns : goal.returns
returns c =
    let mi = c.args.mi in
    let p = c.load_address-addressed.result in
    let m = resolved_operand c.args.state.now c.args.mem.now in
    let form = resolved_form mi c.args.state.now c.args.mem.now ∙ sym c.has_form.ensures ∙ c.if-not-has_form.false in (
      ap (λ t. first_emit_cause (unless t BadOperator) (offset_cause m)) form ∙ c.in_ok-displaced.ensures.0,
      ap (λ o. let f : Finalized = record { helpers = far_helper p.offset_load ++ address_helper p.address_load; operand = o } in f) c.widen.ensures
          ∙ ap (with_widened mi) (c.load_address-addressed.ensures ∙ ap (with_address_loaded mi) c.in_ok-displaced.ensures.1),
    )
