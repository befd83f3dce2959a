use Rattle.s390x_typed_steps.specs.Parts.{name_in, offset_in}
use Rattle.s390x_emit_int.proofs.OnlyMemory.{only_memory_again}
use Rattle.s390x_emit_int.proofs.Symbols.{branch_room, doubleword_room, load_room}
use Rattle.s390x_emit_int.proofs.symbol.emit_symbol_load.Goals as goal

pub returns-in_err-put_branch_over-clause-only_memory : goal.returns-in_err-put_branch_over-clause-only_memory
returns-in_err-put_branch_over-clause-only_memory c = λ room general.
    only_memory_again c.from_residual.result _ c.from_residual.ensures.1
    (c.in_err-put_branch_over.ensures.only_memory (branch_room c.args.sink.now room))

pub returns-in_err-put_reloc-clause-only_memory : goal.returns-in_err-put_reloc-clause-only_memory
returns-in_err-put_reloc-clause-only_memory c = λ room general.
    only_memory_again c.from_residual-in_err-put_reloc.result _ c.from_residual-in_err-put_reloc.ensures.1
    (c.in_err-put_reloc.ensures.only_memory (doubleword_room c.args.sink.now c.put_branch_over.new.sink room c.in_ok-put_branch_over.ensures.answer))

pub returns-clause-only_memory : goal.returns-clause-only_memory
returns-clause-only_memory c = λ room general.
    c.put_load.ensures.only_memory (load_room c.args.sink.now c.put_branch_over.new.sink c.put_reloc.new.sink (name_in c.args.symbol_reloc.now) (offset_in c.args.symbol_reloc.now) room c.in_ok-put_branch_over.ensures.answer c.in_ok-put_reloc.ensures.answer) general
