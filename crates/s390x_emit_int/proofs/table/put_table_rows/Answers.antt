use Rattle.std.proofs.Common.{ap, ◌&&◌}
use Rattle.s390x_base.specs.Regs.{number_of}
use Rattle.s390x_typed_steps.specs.General.{is_general, is_nonzero}
use Rattle.s390x_emit_int.proofs.OnlyMemory.{only_memory_again}
use Rattle.s390x_emit_int.proofs.Tables.{first_passed, second_passed, third_passed}
use Rattle.s390x_emit_int.proofs.table.put_table_rows.Goals as goal

pub returns-in_err-emit_address-clause-only_memory : goal.returns-in_err-emit_address-clause-only_memory
returns-in_err-emit_address-clause-only_memory c = λ p lt general.
    only_memory_again c.from_residual-in_err-emit_address.result _ c.from_residual-in_err-emit_address.ensures.1
    (c.in_err-emit_address.ensures.only_memory (first_passed c.args.sink.now c.put_branch.new.sink c.args.mask c.args.other.0 c.args.table.0 p lt c.in_ok-put_branch.ensures.answer) (ap is_general c.gpr.ensures))

pub returns-in_err-put_word_sum-clause-only_memory : goal.returns-in_err-put_word_sum-clause-only_memory
returns-in_err-put_word_sum-clause-only_memory c = λ p lt general.
    only_memory_again c.from_residual-in_err-put_word_sum.result _ c.from_residual-in_err-put_word_sum.ensures.1
    (c.in_err-put_word_sum.ensures.only_memory (second_passed c.args.sink.now c.put_branch.new.sink c.emit_address.new.sink c.args.mask c.args.other.0 c.args.table.0 (number_of c.gpr.result) p c.in_ok-put_branch.ensures.answer c.in_ok-emit_address.ensures.answer) general)

pub returns-clause-only_memory : goal.returns-clause-only_memory
returns-clause-only_memory c = λ p lt general.
    c.emit_branch_register.ensures.only_memory (third_passed c.args.sink.now c.put_branch.new.sink c.emit_address.new.sink c.put_word_sum.new.sink c.args.mask c.args.other.0 c.args.table.0 (number_of c.gpr.result) (number_of c.args.index) p c.in_ok-put_branch.ensures.answer c.in_ok-emit_address.ensures.answer c.in_ok-put_word_sum.ensures.answer) (ap (λ r. is_general r && is_nonzero r) c.gpr-2.ensures)
