use Rattle.std.proofs.Common.{Some, sym, ap, ◌∙◌}
use Rattle.s390x_base.specs.Regs.{number_of}
use Rattle.s390x_inst.specs.declared.inst.Inst.{Inst}
use Rattle.s390x_rows.specs.declared.opcodes.TheConstants as opcodes
use Rattle.s390x_typed_steps.specs.General.{is_general}
use Rattle.s390x_typed_steps.specs.SingleCode.{single_code}
use Rattle.s390x_typed_steps.specs.SingleInstruction.{single_instruction, single_with, word_row}
use Rattle.s390x_emit_rows.proofs.moves.set_word.Goals as goal

pub returns : goal.returns
returns c = λ i e.
    let rd = c.args.rd.now in
    let bits = c.bits_of_unsigned in
    c.encode_ril_into.ensures
    ∙ ap (λ o. single_code (single_with (is_general rd) (word_row o (number_of rd) bits.result))) c.always.ensures
    ∙ ap (λ n. single_code (single_with (is_general rd) (word_row (Some opcodes.IILF) (number_of rd) n))) bits.ensures
    ∙ ap (λ (k : Inst). single_code (single_instruction k)) (sym e)
