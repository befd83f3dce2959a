use Rattle.std.proofs.Common.{sym, ap, ◌∙◌}
use Rattle.s390x_base.specs.Regs.{number_of}
use Rattle.s390x_inst.specs.declared.inst.Inst.{Inst}
use Rattle.s390x_typed_steps.specs.General.{is_general, low_halfword}
use Rattle.s390x_typed_steps.specs.SingleCode.{single_code}
use Rattle.s390x_typed_steps.specs.SingleInstruction.{single_instruction, single_with, halfword_row}
use Rattle.s390x_emit_rows.proofs.moves.set_short_doubleword.Goals as goal

pub returns : goal.returns
returns c = λ i e.
    let rd = c.args.rd.now in
    c.encode_signed_ri_into.ensures
    ∙ ap (λ o. single_code (single_with (is_general rd) (halfword_row o (number_of rd) (low_halfword c.args.imm.now)))) c.always.ensures
    ∙ ap (λ (k : Inst). single_code (single_instruction k)) (sym e)
