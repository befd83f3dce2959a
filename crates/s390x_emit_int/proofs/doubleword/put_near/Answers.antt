use Rattle.std.proofs.Common.{sym, ap, length, ◌∙◌}
use Rattle.s390x_buffer.specs.State.{put_cause}
use Rattle.s390x_typed_steps.specs.Memory.{type_of, storage_row, fault_code}
use Rattle.s390x_typed_steps.specs.Operands.{finalized_operand}
use Rattle.s390x_typed_steps.specs.Parts.{access_parts, parts_size}
use Rattle.s390x_address.specs.Appended.{with_parts}
use Rattle.s390x_address.proofs.Displacing.{row_found, plain_parts, plain_size}
use Rattle.s390x_emit_int.specs.Doubleword.{instruction_of}
use Rattle.s390x_emit_int.proofs.Answering.{on_ok}
use Rattle.s390x_emit_int.proofs.doubleword.put_near.Goals as goal
use Rattle.std.proofs.Common.{Some}

pub returns-clause-answer : goal.returns-clause-answer
returns-clause-answer c =
    let s = c.args.sink.now in
    let x = instruction_of c.args.access.now in
    let f = finalized_operand (type_of x.form x.accesses) x.operand in
    let plain = c.requires.0 in
    row_found (storage_row x.form f.operand) c.args.code.now plain.2 (λ m row same.
    on_ok c.put_row.result (c.put_row.ensures.answer m same) (λ h.
    h ∙ ap (λ k. with_parts s (access_parts (Some m) k)) c.trap_code.ensures ∙ ap (with_parts s) (sym (plain_parts x.form (fault_code x) f m plain.0 plain.1 row))))

pub returns-clause-only_memory : goal.returns-clause-only_memory
returns-clause-only_memory c = λ put.
    let s = c.args.sink.now in
    let x = instruction_of c.args.access.now in
    let f = finalized_operand (type_of x.form x.accesses) x.operand in
    let plain = c.requires.0 in
    row_found (storage_row x.form f.operand) c.args.code.now plain.2 (λ m row same.
    c.put_row.ensures.only_memory (ap (λ n. put_cause s n) (ap length same ∙ sym (plain_size (fault_code x) m) ∙ ap parts_size (sym (plain_parts x.form (fault_code x) f m plain.0 plain.1 row))) ∙ put))
