use Rattle.std.proofs.Common.{◌++◌, ap, ◌∙◌, arith}
use Rattle.s390x_disassembler.specs.Text.{row_text}
use Rattle.s390x_disassembler.specs.Fitted.{fitting_text}
use Rattle.s390x_disassembler.proofs.Fitting.{fits}
use Rattle.s390x_disassembler.proofs.Widths.{located_short}
use Rattle.s390x_disassembler.proofs.fitted_text.located_text.Goals as goal

pub returns-clause-cut : goal.returns-clause-cut
returns-clause-cut c =
    c.put_row.ensures
    ∙ ap (λ before. fitting_text (before ++ row_text _ c.args.address c.args.located.now.at c.args.located.now.decoded.fields)) c.new-out.ensures

pub returns-clause-whole : goal.returns-clause-whole
returns-clause-whole c = λ bytes h. returns-clause-cut c ∙ fits _ (omega (arith, located_short c.args.address bytes c.args.located.now h))
