use Rattle.std.proofs.Common.{◌≡◌, ◌&&◌, ◌||◌, not, false, None, sym, ap, ◌∙◌}
use Rattle.std.proofs.lemmas.Bool.{and_parts}
use Rattle.s390x_buffer.specs.State.{put_cause}
use Rattle.s390x_typed_steps.specs.Causes.{declared_in, memory_cause}
use Rattle.s390x_typed_steps.specs.Memory.{type_of, fault_code}
use Rattle.s390x_typed_steps.specs.Operands.{needs_address, operand_general}
use Rattle.s390x_typed_steps.specs.Parts.{memory_parts, relative_parts, parts_size}
use Rattle.s390x_address.specs.Appended.{with_parts}
use Rattle.s390x_address.specs.Rows.{relative_encodes, rows_encode, memory_instruction_of, in_state}
use Rattle.s390x_address.proofs.Encoding.{follows}
use Rattle.s390x_address.proofs.Planning.{on_ok}
use Rattle.s390x_address.proofs.SymbolAccess.{resolved_symbol, symbol_bound, at_symbol_cause, at_symbol_parts}
use Rattle.s390x_address.proofs.memory.MemoryInst.emit_symbol.Goals as goal

pub returns-else-needs_address-clause-answer : goal.returns-else-needs_address-clause-answer
returns-else-needs_address-clause-answer c =
    let s = c.args.sink.now in
    let x = memory_instruction_of c.args.self.now in
    let D = declared_in s in
    let own = resolved_symbol c.args.state.now x.operand c.requires.linkable in
    let direct : needs_address (type_of x.form x.accesses) x.operand ≡ false = ap (λ mi. needs_address mi x.operand) (sym c.forms.ensures) ∙ sym c.needs_address.ensures ∙ c.if-needs_address.false in
    let parts : memory_parts (in_state c.args.state.now x) ≡ relative_parts x.form (fault_code x) x.operand =
    ap (λ m. memory_parts (record { form = x.form; operand = m; accesses = x.accesses; operands_valid = x.operands_valid; reads_scratch = x.reads_scratch })) own
    ∙ at_symbol_parts x.form x.operand x.accesses (fault_code x) c.requires.linkable direct in
    on_ok c.put_relative.result c.put_relative.ensures.answer (λ h. (
      ap (λ m. memory_cause D (record { form = x.form; operand = m; accesses = x.accesses; operands_valid = x.operands_valid; reads_scratch = x.reads_scratch })) own
          ∙ at_symbol_cause D x.form x.operand x.accesses x.operands_valid x.reads_scratch c.requires.linkable direct c.requires.valid,
      h ∙ ap (λ k. with_parts s (relative_parts x.form k x.operand)) c.fault_code.ensures ∙ ap (with_parts s) (sym parts),
    ))

pub returns-else-needs_address-clause-only_memory : goal.returns-else-needs_address-clause-only_memory
returns-else-needs_address-clause-only_memory c = λ put none.
    let s = c.args.sink.now in
    let x = memory_instruction_of c.args.self.now in
    let rows = c.args.self.now.rows in
    let own = resolved_symbol c.args.state.now x.operand c.requires.linkable in
    let direct : needs_address (type_of x.form x.accesses) x.operand ≡ false = ap (λ mi. needs_address mi x.operand) (sym c.forms.ensures) ∙ sym c.needs_address.ensures ∙ c.if-needs_address.false in
    let parts : memory_parts (in_state c.args.state.now x) ≡ relative_parts x.form (fault_code x) x.operand =
    ap (λ m. memory_parts (record { form = x.form; operand = m; accesses = x.accesses; operands_valid = x.operands_valid; reads_scratch = x.reads_scratch })) own
    ∙ at_symbol_parts x.form x.operand x.accesses (fault_code x) c.requires.linkable direct in
    let encoded = (and_parts (relative_encodes rows) (not x.operands_valid || rows_encode rows) c.requires.encodes).1 in
    let size = ap (λ k. put_cause s (parts_size (relative_parts x.form k x.operand))) c.fault_code.ensures ∙ sym (ap (λ ps. put_cause s (parts_size ps)) parts) ∙ put in
    c.put_relative.ensures.only_memory size (follows x.operands_valid (rows_encode rows) encoded (and_parts x.operands_valid (operand_general x.operand) c.requires.valid).0) (symbol_bound (declared_in s) x.operand c.requires.linkable)
