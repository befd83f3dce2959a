use Rattle.std.proofs.Common.{Bool, Some, ◌&&◌, sym, ap, ◌∙◌}
use Rattle.s390x_base.specs.Regs.{number_of}
use Rattle.s390x_base.specs.declared.regs.Reg.{Reg}
use Rattle.s390x_typed_steps.specs.General.{is_general, low_displacement}
use Rattle.s390x_typed_steps.specs.MachineInstruction.{MachineInstruction, rxy}
use Rattle.s390x_typed_steps.specs.SingleCode.{code_where, single_code}
use Rattle.s390x_typed_steps.specs.SingleInstruction.{single_with, indexed_row}
use Rattle.s390x_emit_rows.proofs.moves.indexed_row.Goals as goal

pub returns-in-Some : goal.returns-in-Some
returns-in-Some c =
    let base = c.args.base.now in
    let index = c.args.index.now in
    let displacement = low_displacement c.args.displacement in
    let row : Reg → MachineInstruction = λ r. rxy c.in-Some.opcode (number_of r) (number_of base) (number_of index) displacement in
    let valid : Reg → Bool = λ r. is_general r && is_general base && is_general index in
    ap Some (c.indexed_code.ensures ∙ ap (λ v. code_where v (row c.to_reg-output.result)) c.three_general.ensures ∙ ap (λ r. code_where (valid r) (row r)) c.to_reg-output.ensures)
    ∙ ap (λ o. single_code (single_with (valid c.args.rd.now) (indexed_row o (number_of c.args.rd.now) (number_of base) (number_of index) displacement))) (sym c.in-Some.is)
