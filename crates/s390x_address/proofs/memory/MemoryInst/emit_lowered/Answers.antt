use Rattle.std.proofs.Common.{◌≡◌, None, Some, cond, sym, ap, subst, ◌∙◌, ◌||◌, not}
use Rattle.std.proofs.lemmas.Bool.{and_parts}
use Rattle.s390x_buffer.specs.State.{put_cause}
use Rattle.s390x_typed_steps.specs.Causes.{declared_in, operand_cause}
use Rattle.s390x_typed_steps.specs.Memory.{type_of, fault_code}
use Rattle.s390x_typed_steps.specs.Operands.{finalized_operand}
use Rattle.s390x_typed_steps.specs.Parts.{finalized_parts, parts_size}
use Rattle.s390x_address.specs.Appended.{with_parts}
use Rattle.s390x_address.specs.Lowerings.{finalized_of}
use Rattle.s390x_address.specs.Rows.{relative_encodes, rows_encode, memory_instruction_of, in_state}
use Rattle.s390x_address.proofs.Planning.{resolved_flags, on_ok}
use Rattle.s390x_address.proofs.Lowered.{lowered_none, none_lowered}
use Rattle.s390x_address.proofs.Refusing.{Stands, passes, finalized_stands, lowering_may_stand}
use Rattle.s390x_address.proofs.memory.MemoryInst.emit_lowered.Goals as goal
use Rattle.s390x_address.proofs.Encoding.{follows}

pub returns-in-Ok-clause-answer : goal.returns-in-Ok-clause-answer
returns-in-Ok-clause-answer c =
    let s = c.args.sink.now in
    let x = memory_instruction_of c.args.self.now in
    let y = in_state c.args.state.now x in
    let p = c.in-Ok.lowering in
    let forms : c.forms.result ≡ type_of x.form x.accesses = c.forms.ensures in
    let none : operand_cause (type_of x.form x.accesses) y.operand ≡ None = ap (λ mi. operand_cause mi y.operand) (sym forms) ∙ c.in-Ok.ensures.0 in
    let same : finalized_of p ≡ finalized_operand (type_of x.form x.accesses) y.operand = c.in-Ok.ensures.1 ∙ ap (λ mi. finalized_operand mi y.operand) forms in
    let code : fault_code x ≡ fault_code y = ap (λ f. cond x.accesses f.trap None) (sym (resolved_flags c.args.state.now c.args.self.now.operand)) in
    on_ok c.emit_lowering.result c.emit_lowering.ensures.answer (λ h. (
      lowered_none (declared_in s) c.args.state.now x (finalized_of p) c.requires.valid none same h.0,
      h.1 ∙ ap (λ k. with_parts s (finalized_parts x.form k (finalized_of p))) code ∙ ap (λ f. with_parts s (finalized_parts x.form (fault_code y) f)) same,
    ))

pub returns-in-Ok-clause-only_memory : goal.returns-in-Ok-clause-only_memory
returns-in-Ok-clause-only_memory c = λ put none.
    let s = c.args.sink.now in
    let x = memory_instruction_of c.args.self.now in
    let y = in_state c.args.state.now x in
    let p = c.in-Ok.lowering in
    let D = declared_in s in
    let mi = type_of x.form x.accesses in
    let forms : c.forms.result ≡ mi = c.forms.ensures in
    let free = passes D y none in
    let same : finalized_of p ≡ finalized_operand mi y.operand = c.in-Ok.ensures.1 ∙ ap (λ m. finalized_operand m y.operand) forms in
    let code : fault_code x ≡ fault_code y = ap (λ f. cond x.accesses f.trap None) (sym (resolved_flags c.args.state.now c.args.self.now.operand)) in
    let encoded = (and_parts (relative_encodes c.args.self.now.rows) (not x.operands_valid || rows_encode c.args.self.now.rows) c.requires.encodes).1 in
    let size = ap (λ k. put_cause s (parts_size (finalized_parts x.form k (finalized_of p)))) code ∙ ap (λ f. put_cause s (parts_size (finalized_parts x.form (fault_code y) f))) same ∙ put in
    c.emit_lowering.ensures.only_memory size (follows x.operands_valid (rows_encode c.args.self.now.rows) encoded free.operands_valid) (lowering_may_stand D p (subst (Stands D) (sym same) (finalized_stands D mi y.operand free.stands))) (none_lowered D c.args.state.now x (finalized_of p) free.operand same none)

pub returns-in-Err-clause-only_memory : goal.returns-in-Err-clause-only_memory
returns-in-Err-clause-only_memory c = λ put none.
    let x = in_state c.args.state.now (memory_instruction_of c.args.self.now) in
    let forms : c.forms.result ≡ type_of x.form x.accesses = c.forms.ensures in
    let p = passes (declared_in c.args.sink.now) x none in
    let clash : None ≡ Some c.in-Err.error = sym p.operand ∙ ap (λ mi. operand_cause mi x.operand) (sym forms) ∙ c.in-Err.ensures in
    absurd (cc)
