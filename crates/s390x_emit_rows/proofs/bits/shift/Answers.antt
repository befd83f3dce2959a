use Rattle.std.proofs.Common.{sym, ap, ◌∙◌}
use Rattle.s390x_inst.specs.declared.inst.Inst.{Inst}
use Rattle.s390x_typed_steps.specs.SingleCode.{single_code}
use Rattle.s390x_typed_steps.specs.SingleInstruction.{single_instruction}
use Rattle.s390x_emit_rows.proofs.bits.shift.Goals as goal

pub returns : goal.returns
returns c = λ i e. c.shift_row.ensures ∙ ap (λ (k : Inst). single_code (single_instruction k)) (sym e)
