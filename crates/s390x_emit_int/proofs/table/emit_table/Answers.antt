use Rattle.std.proofs.Common.{arith}
use Rattle.s390x_buffer.proofs.Extending.{extends_on, extends_bound}
use Rattle.s390x_base.specs.Regs.{number_of}
use Rattle.s390x_emit_int.proofs.Tables.{table_passed, words_begin_passed}
use Rattle.s390x_emit_int.proofs.table.emit_table.Goals as goal

pub returns-clause-kept : goal.returns-clause-kept
returns-clause-kept c =
    let rows = extends_on _ _ _ c.get_label.ensures.kept c.put_table_rows.ensures.kept in
    extends_on _ _ _ (extends_bound _ _ _ _ rows (omega (arith, c.in_ok-table.ensures.answer.1)) c.bind_label.ensures.kept) c.put_words.ensures.kept

pub returns-clause-only_memory : goal.returns-clause-only_memory
returns-clause-only_memory c = λ after p numbers.
    let t = table_passed c.args.sink.now after c.args.index c.args.other c.args.targets.now p numbers in
    c.put_words.ensures.only_memory after (words_begin_passed c.args.sink.now c.get_label.new.self c.put_table_rows.new.sink c.bind_label.new.self after c.in_ok-table.table.0 (number_of c.args.index) c.bits-mask.result c.args.index c.args.other c.args.targets.now p t c.in_ok-table.ensures.answer.2 c.in_ok-put_table_rows.ensures.answer c.in_ok-bind_label.ensures.answer.1)

pub returns-in_err-bind_label-clause-kept : goal.returns-in_err-bind_label-clause-kept
returns-in_err-bind_label-clause-kept c =
    extends_bound _ _ _ _ (extends_on _ _ _ c.get_label.ensures.kept c.put_table_rows.ensures.kept) (omega (arith, c.in_ok-table.ensures.answer.1)) c.bind_label.ensures.kept
