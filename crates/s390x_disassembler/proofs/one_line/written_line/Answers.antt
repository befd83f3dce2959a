use Rattle.std.proofs.Common.{[], ◌∷◌, ◌∙◌}
use Rattle.s390x_disassembler.specs.Text.{row_text, spellings}
use Rattle.s390x_disassembler.proofs.Fitting.{same_then}
use Rattle.s390x_disassembler.proofs.one_line.written_line.Goals as goal

pub returns : goal.returns
returns c = c.put_byte.ensures ∙ same_then c.located_text-out.result.items (row_text spellings c.args.address c.args.located.now.at c.args.located.now.decoded.fields) (10 ∷ []) c.located_text-out.ensures.cut
