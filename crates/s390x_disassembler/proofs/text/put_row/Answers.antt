use Rattle.std.proofs.Common.{◌≡◌, ◌++◌, OnOk, string_bytes, append-nil, sym, ap, subst, ◌∙◌, arith}
use Rattle.s390x_disassembler.proofs.Rows.{row_at, row_past}
use Rattle.s390x_disassembler.proofs.text.put_row.Goals as goal

pub returns-then-at-spellings : goal.returns-then-at-spellings
returns-then-at-spellings c =
    subst (λ n. OnOk c.put_spelled.result (string_bytes c.put_spelled.new.out ≡ string_bytes c.args.out.now ++ n))
    (sym (row_at c.args.spellings.now c.args.address c.args.at c.args.fields.now _ (omega (arith, c.if-at-spellings.true)))) c.put_spelled.ensures

pub returns-else-at-spellings : goal.returns-else-at-spellings
returns-else-at-spellings c =
    sym (append-nil _) ∙ ap (λ n. string_bytes c.args.out.now ++ n) (sym (row_past c.args.spellings.now c.args.address c.args.at c.args.fields.now (omega (arith, c.if-at-spellings.false))))
