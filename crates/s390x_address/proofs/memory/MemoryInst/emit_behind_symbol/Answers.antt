use Rattle.std.proofs.Common.{◌≡◌, ◌+◌, [], ◌∷◌, ◌++◌, None, Some, ◌&&◌, cond, length, sym, ap, subst, ◌∙◌}
use Rattle.s390x_base.specs.declared.error.EmitError.TheVariants.{BadRegister}
use Rattle.s390x_buffer.specs.State.{put_cause}
use Rattle.s390x_inst.specs.declared.inst.Inst.TheVariants.{LoadAddr}
use Rattle.s390x_typed_steps.specs.Causes.{declared_in, unless}
use Rattle.s390x_typed_steps.specs.Memory.{type_of, storage_row, fault_code}
use Rattle.s390x_typed_steps.specs.Operands.{scratch, finalized_operand}
use Rattle.s390x_typed_steps.specs.Parts.{access_parts, helpers_parts, parts_size}
use Rattle.s390x_address.specs.Appended.{with_parts}
use Rattle.s390x_address.specs.Lowerings.{IsBehind}
use Rattle.s390x_address.specs.Rows.{memory_instruction_of, in_state}
use Rattle.s390x_address.proofs.Displacing.{row_found, behind_parts}
use Rattle.s390x_address.proofs.Planning.{resolved_flags, resolved_general, on_ok}
use Rattle.s390x_address.proofs.SymbolAccess.{resolved_symbol, symbol_row_size}
use Rattle.s390x_address.proofs.memory.MemoryInst.emit_behind_symbol.Goals as goal

pub returns-in-Some-clause-answer : goal.returns-in-Some-clause-answer
returns-in-Some-clause-answer c =
    let s = c.args.sink.now in
    let e = c.args.state.now in
    let x = memory_instruction_of c.args.self.now in
    let y = in_state e x in
    let f = finalized_operand (type_of y.form y.accesses) y.operand in
    let helpers = LoadAddr scratch x.operand ∷ [] in
    let behind : IsBehind y helpers c.in-Some.code = subst (λ m. IsBehind (record { form = x.form; operand = m; accesses = x.accesses; operands_valid = x.operands_valid; reads_scratch = x.reads_scratch }) helpers c.in-Some.code) (sym (resolved_symbol e x.operand c.requires.linkable)) c.in-Some.ensures in
    let code : c.fault_code.result ≡ fault_code y = c.fault_code.ensures ∙ ap (λ g. cond x.accesses g.trap None) (sym (resolved_flags e x.operand)) in
    let valid = ap (λ t. unless (x.operands_valid && t) BadRegister) (resolved_general e x.operand) ∙ ap (λ t. unless t BadRegister) c.requires.valid in
    row_found (storage_row y.form f.operand) c.in-Some.code behind.2 (λ m row same.
    on_ok c.put_behind_symbol.result (c.put_behind_symbol.ensures.answer m same) (λ h. (
      behind.3 (declared_in s) ∙ valid,
      h ∙ ap (λ k. with_parts s (helpers_parts helpers ++ access_parts (Some m) k)) code ∙ ap (with_parts s) (sym (behind_parts y.form (fault_code y) f helpers m behind.0 behind.1 row)),
    )))

pub returns-in-Some-clause-only_memory : goal.returns-in-Some-clause-only_memory
returns-in-Some-clause-only_memory c = λ put none.
    let s = c.args.sink.now in
    let e = c.args.state.now in
    let x = memory_instruction_of c.args.self.now in
    let y = in_state e x in
    let f = finalized_operand (type_of y.form y.accesses) y.operand in
    let helpers = LoadAddr scratch x.operand ∷ [] in
    let behind : IsBehind y helpers c.in-Some.code = subst (λ m. IsBehind (record { form = x.form; operand = m; accesses = x.accesses; operands_valid = x.operands_valid; reads_scratch = x.reads_scratch }) helpers c.in-Some.code) (sym (resolved_symbol e x.operand c.requires.linkable)) c.in-Some.ensures in
    row_found (storage_row y.form f.operand) c.in-Some.code behind.2 (λ m row same.
    c.put_behind_symbol.ensures.only_memory (ap (λ n. put_cause s n) (ap (λ n. 6 + n) (ap length same) ∙ sym (symbol_row_size x.operand (fault_code y) m c.requires.linkable) ∙ ap parts_size (sym (behind_parts y.form (fault_code y) f helpers m behind.0 behind.1 row))) ∙ put))
