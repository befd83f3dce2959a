use Rattle.std.proofs.Common.{sym, ap, ◌∙◌}
use Rattle.s390x_inst.specs.declared.inst.Inst.{Inst}
use Rattle.s390x_typed_steps.specs.SingleCode.{single_code}
use Rattle.s390x_typed_steps.specs.SingleInstruction.{single_instruction}
use Rattle.s390x_emit_rows.proofs.moves.conditional_doubleword.Goals as goal

pub returns : goal.returns
returns c = λ i e. c.conditional_immediate_row.ensures ∙ ap (λ (k : Inst). single_code (single_instruction k)) (sym e)
