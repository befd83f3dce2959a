use Rattle.std.proofs.Common.{◌≡◌, None, Some, sym, ap, ◌∙◌}
use Rattle.s390x_typed_steps.specs.Causes.{first_emit_cause, declared_in, operand_cause, target_cause}
use Rattle.s390x_typed_steps.specs.Memory.{type_of}
use Rattle.s390x_typed_steps.specs.Operands.{finalized_operand}
use Rattle.s390x_address.specs.Lowerings.{finalized_of}
use Rattle.s390x_address.specs.Rows.{memory_instruction_of, in_state}
use Rattle.s390x_address.proofs.Planning.{resolved_form}
use Rattle.s390x_address.proofs.Lowered.{lowered_last}
use Rattle.s390x_address.proofs.Refusing.{late_err}
use Rattle.s390x_address.proofs.memory.MemoryInst.last_cause.Goals as goal

pub returns-in-Ok : goal.returns-in-Ok
returns-in-Ok c =
    let x = memory_instruction_of c.args.self.now in
    let y = in_state c.args.state.now x in
    let forms : c.forms.result ≡ type_of x.form x.accesses = c.forms.ensures in
    let none : operand_cause (type_of x.form x.accesses) y.operand ≡ None = ap (λ mi. operand_cause mi y.operand) (sym forms) ∙ c.in-Ok.ensures.0 in
    let same : finalized_of c.in-Ok.lowering ≡ finalized_operand (type_of x.form x.accesses) y.operand = c.in-Ok.ensures.1 ∙ ap (λ mi. finalized_operand mi y.operand) forms in
    c.lowered_cause.ensures ∙ lowered_last (declared_in c.args.sink.now) c.args.state.now x (finalized_of c.in-Ok.lowering) none same

pub returns-in-Err : goal.returns-in-Err
returns-in-Err c =
    let x = in_state c.args.state.now (memory_instruction_of c.args.self.now) in
    let forms : c.forms.result ≡ type_of x.form x.accesses = c.forms.ensures in
    let cause : operand_cause (type_of x.form x.accesses) x.operand ≡ Some c.in-Err.error = ap (λ mi. operand_cause mi x.operand) (sym forms) ∙ c.in-Err.ensures in
    sym (ap (λ o. first_emit_cause o (target_cause (declared_in c.args.sink.now) x)) (late_err x c.in-Err.error (resolved_form (type_of x.form x.accesses) c.args.state.now c.args.self.now.operand ∙ c.requires) cause))
