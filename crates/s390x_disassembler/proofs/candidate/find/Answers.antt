use Rattle.std.proofs.Common.{◌≡◌, ◌+◌, map, drop, arith, sym, ◌∙◌}
use Rattle.s390x_disassembler.specs.Text.{plain_row}
use Rattle.s390x_disassembler.specs.Names.{row_named}
use Rattle.s390x_disassembler.proofs.Tables.{row_step}
use Rattle.s390x_disassembler.proofs.candidate.find.Goals as goal

pub loop-at-preserved : goal.loop-at-preserved
loop-at-preserved c =
    let step = row_step c.args.spellings.now c.loop-at.at c.args.mnemonic.now _ c.loop-at-test.true (sym c.may_name.ensures ∙ c.if-may_name.false) in
    let so : c.loop-at.at + row_named (map (λ row. plain_row row) (drop c.loop-at.at c.args.spellings.now)) c.args.mnemonic.now ≡ row_named (map (λ row. plain_row row) c.args.spellings.now) c.args.mnemonic.now = c.loop-at.invariant in
    let next : c.loop-at.at + 1 + row_named (map (λ row. plain_row row) (drop (c.loop-at.at + 1) c.args.spellings.now)) c.args.mnemonic.now ≡ row_named (map (λ row. plain_row row) c.args.spellings.now) c.args.mnemonic.now = omega (arith, step, so) in
    next
