use Rattle.std.proofs.Common.{◌≡◌, None, Some, ◌&&◌, cond, length, sym, ap, ◌∙◌}
use Rattle.s390x_base.specs.declared.error.EmitError.TheVariants.{BadRegister}
use Rattle.s390x_buffer.specs.State.{put_cause}
use Rattle.s390x_typed_steps.specs.Causes.{declared_in, unless}
use Rattle.s390x_typed_steps.specs.Memory.{type_of, storage_row, fault_code}
use Rattle.s390x_typed_steps.specs.Operands.{finalized_operand}
use Rattle.s390x_typed_steps.specs.Parts.{access_parts, parts_size}
use Rattle.s390x_address.specs.Appended.{with_parts}
use Rattle.s390x_address.specs.Rows.{memory_instruction_of, in_state}
use Rattle.s390x_address.proofs.Displacing.{row_found, plain_parts, plain_size}
use Rattle.s390x_address.proofs.Planning.{resolved_flags, resolved_general, on_ok}
use Rattle.s390x_address.proofs.memory.MemoryInst.emit_standing.Goals as goal

pub returns-in-Some-clause-answer : goal.returns-in-Some-clause-answer
returns-in-Some-clause-answer c =
    let s = c.args.sink.now in
    let e = c.args.state.now in
    let x = memory_instruction_of c.args.self.now in
    let y = in_state e x in
    let f = finalized_operand (type_of y.form y.accesses) y.operand in
    let plain = c.in-Some.ensures c.args.state.now c.args.self.now.accesses c.args.self.now.operands_valid c.args.self.now.reads_scratch in
    let code : c.fault_code.result ≡ fault_code y = c.fault_code.ensures ∙ ap (λ g. cond x.accesses g.trap None) (sym (resolved_flags e x.operand)) in
    let valid = ap (λ t. unless (x.operands_valid && t) BadRegister) (resolved_general e x.operand) ∙ ap (λ t. unless t BadRegister) c.requires.valid in
    row_found (storage_row y.form f.operand) c.in-Some.code plain.2 (λ m row same.
    on_ok c.put_row.result (c.put_row.ensures.answer m same) (λ h. (
      plain.3 (declared_in s) ∙ valid,
      h ∙ ap (λ k. with_parts s (access_parts (Some m) k)) code ∙ ap (with_parts s) (sym (plain_parts y.form (fault_code y) f m plain.0 plain.1 row)),
    )))

pub returns-in-Some-clause-only_memory : goal.returns-in-Some-clause-only_memory
returns-in-Some-clause-only_memory c = λ put none.
    let s = c.args.sink.now in
    let y = in_state c.args.state.now (memory_instruction_of c.args.self.now) in
    let f = finalized_operand (type_of y.form y.accesses) y.operand in
    let plain = c.in-Some.ensures c.args.state.now c.args.self.now.accesses c.args.self.now.operands_valid c.args.self.now.reads_scratch in
    row_found (storage_row y.form f.operand) c.in-Some.code plain.2 (λ m row same.
    c.put_row.ensures.only_memory (ap (λ n. put_cause s n) (ap length same ∙ sym (plain_size (fault_code y) m) ∙ ap parts_size (sym (plain_parts y.form (fault_code y) f m plain.0 plain.1 row))) ∙ put))
