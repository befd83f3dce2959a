use Rattle.std.proofs.Common.{IfSome, sym, subst}
use Rattle.s390x_typed_steps.specs.Operands.{resolved_operand}
use Rattle.s390x_address.specs.Lowerings.{IsPlain}
use Rattle.s390x_address.specs.Rows.{storage_form_of}
use Rattle.s390x_address.proofs.standing_operand.standing_code.Goals as goal

pub returns-in-BXD12 : goal.returns-in-BXD12
returns-in-BXD12 c = λ e accesses operands_valid reads_scratch.
    subst (λ m. IfSome c.short_code.result (λ code. IsPlain (record { form = storage_form_of c.args.rows.now; operand = resolved_operand e m; accesses = accesses; operands_valid = operands_valid; reads_scratch = reads_scratch }) code)) (sym c.in-BXD12.is) (c.short_code.ensures accesses operands_valid reads_scratch c.in-BXD12.flags)

pub returns-in-BXD20 : goal.returns-in-BXD20
returns-in-BXD20 c = λ e accesses operands_valid reads_scratch.
    subst (λ m. IfSome c.long_code.result (λ code. IsPlain (record { form = storage_form_of c.args.rows.now; operand = resolved_operand e m; accesses = accesses; operands_valid = operands_valid; reads_scratch = reads_scratch }) code)) (sym c.in-BXD20.is) (c.long_code.ensures accesses operands_valid reads_scratch c.in-BXD20.flags)
