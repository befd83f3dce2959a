use Rattle.std.proofs.Common.{◌&&◌, ap, ◌∙◌}
use Rattle.s390x_base.specs.Regs.{number_of}
use Rattle.s390x_base.specs.declared.regs.Reg.{Reg}
use Rattle.s390x_format.specs.Formats.{length_of}
use Rattle.s390x_rows.specs.declared.opcodes.TheConstants as opcodes
use Rattle.s390x_typed_steps.specs.General.{is_general}
use Rattle.s390x_typed_steps.specs.MachineInstruction.{vrs_a}
use Rattle.s390x_typed_steps.specs.SingleCode.{code_where}
use Rattle.s390x_typed_steps.specs.VectorComposite.{exchanges_halves}
use Rattle.s390x_typed_steps.specs.VectorInstruction.{is_vector}
use Rattle.s390x_emit_int.proofs.Composing.{first_again}
use Rattle.s390x_emit_int.proofs.composite.exchange_halves.Goals as goal

pub returns-clause-answer : goal.returns-clause-answer
returns-clause-answer c =
    let d = c.args.rd.now in
    let found = c.shifted_vector-found.ensures ∙ ap (λ (z : Reg). code_where (is_vector d && is_vector d && is_general z) (vrs_a opcodes.VERLL (number_of d) (number_of z) (number_of d) c.args.code c.args.half)) c.zero_reg.ensures in
    c.put_found.ensures.answer _ (exchanges_halves (number_of d) c.args.code c.args.half) found

pub returns-clause-only_memory : goal.returns-clause-only_memory
unfolding length_of
returns-clause-only_memory c = λ put valid.
    let d = c.args.rd.now in
    let found = c.shifted_vector-found.ensures ∙ ap (λ (z : Reg). code_where (is_vector d && is_vector d && is_general z) (vrs_a opcodes.VERLL (number_of d) (number_of z) (number_of d) c.args.code c.args.half)) c.zero_reg.ensures in
    c.put_found.ensures.only_memory _ (exchanges_halves (number_of d) c.args.code c.args.half) found put (first_again (is_vector d) valid)
