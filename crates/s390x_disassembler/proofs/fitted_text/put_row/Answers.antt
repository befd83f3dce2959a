use Rattle.std.proofs.Common.{sym, subst, arith}
use Rattle.s390x_disassembler.specs.Fitted.{Adds}
use Rattle.s390x_disassembler.proofs.Rows.{row_at, row_past}
use Rattle.s390x_disassembler.proofs.fitted_text.put_row.Goals as goal

pub returns-then-at-spellings : goal.returns-then-at-spellings
returns-then-at-spellings c =
    subst (λ text. Adds c.args.out.now.items text c.put_spelled.new.out.items)
    (sym (row_at c.args.spellings.now c.args.address c.args.at c.args.fields.now _ (omega (arith, c.if-at-spellings.true)))) c.put_spelled.ensures

pub returns-else-at-spellings : goal.returns-else-at-spellings
returns-else-at-spellings c =
    subst (λ text. Adds c.args.out.now.items text c.put.new.out.items)
    (sym (row_past c.args.spellings.now c.args.address c.args.at c.args.fields.now (omega (arith, c.if-at-spellings.false)))) c.put.ensures
