use Rattle.std.proofs.Common.{None, Some, ap, ◌∙◌, length}
use Rattle.s390x_buffer.specs.State.{put_cause}
use Rattle.s390x_typed_steps.specs.Causes.{declared_in}
use Rattle.s390x_typed_steps.specs.Parts.{access_parts, relative_parts, parts_size}
use Rattle.s390x_address.specs.Appended.{with_parts}
use Rattle.s390x_address.proofs.OnlyMemory.{only_memory_again, put_first, put_others}
use Rattle.s390x_address.proofs.Planning.{on_ok}
use Rattle.s390x_address.proofs.SymbolAccess.{symbol_bound, symbol_put, symbol_puts, symbol_size}
use Rattle.s390x_address.proofs.memory.put_behind_symbol.Goals as goal

pub returns-clause-answer : goal.returns-clause-answer
returns-clause-answer c = λ m same.
    let s = c.args.sink.now in
    let symbol = c.args.symbol.now in
    let loaded = c.in_ok-put_relative.ensures.answer ∙ ap (λ form. with_parts s (relative_parts form None symbol)) c.address_rows.ensures.form in
    on_ok c.put_row.result (c.put_row.ensures.answer m same) (λ h. h ∙ ap (λ t. with_parts t (access_parts (Some m) c.args.trap_code)) loaded ∙ symbol_put s symbol (access_parts (Some m) c.args.trap_code) c.requires)

pub returns-clause-only_memory : goal.returns-clause-only_memory
returns-clause-only_memory c = λ put.
    let s = c.args.sink.now in
    let symbol = c.args.symbol.now in
    let loaded = c.in_ok-put_relative.ensures.answer ∙ ap (λ form. with_parts s (relative_parts form None symbol)) c.address_rows.ensures.form in
    c.put_row.ensures.only_memory (put_others s c.put_relative.new.sink 6 (length c.args.code.now) (symbol_puts s c.put_relative.new.sink symbol c.requires loaded) put)

pub returns-in_err-put_relative-clause-only_memory : goal.returns-in_err-put_relative-clause-only_memory
returns-in_err-put_relative-clause-only_memory c = λ put.
    let s = c.args.sink.now in
    let symbol = c.args.symbol.now in
    let size = ap (λ form. put_cause s (parts_size (relative_parts form None symbol))) c.address_rows.ensures.form ∙ ap (put_cause s) (symbol_size symbol c.requires) ∙ put_first s 6 (length c.args.code.now) put in
    only_memory_again c.from_residual.result _ c.from_residual.ensures.1 (c.in_err-put_relative.ensures.only_memory size c.address_rows.ensures.encodes (symbol_bound (declared_in s) symbol c.requires))
