use Rattle.s390x_disassembler.proofs.Tables.{named_here}
use Rattle.s390x_disassembler.proofs.candidate.named_bytes.Goals as goal

pub returns-then-at-rows : goal.returns-then-at-rows
returns-then-at-rows c =
    named_here c.args.address c.find-at.result c.args.spellings.now c.args.rows.now c.args.mnemonic.now c.args.text.now c.row_bytes.result.items _ _ c.find-at.ensures c.if-at-spellings.true c.if-at-rows.true c.row_bytes.ensures
