use Rattle.s390x_disassembler.specs.Assembly.{located_line}
use Rattle.s390x_disassembler.proofs.Fitting.{fitted_same, same_fitted}
use Rattle.s390x_disassembler.proofs.one_line.is_line.Goals as goal

pub returns-clause-yes : goal.returns-clause-yes
returns-clause-yes c = λ e. fitted_same c.args.line.now c.written_line-text.result.items (located_line c.args.address c.args.located.now) c.written_line-text.ensures c.requires (c.is_text.ensures.same e)

pub returns-clause-no : goal.returns-clause-no
returns-clause-no c = λ e h. c.is_text.ensures.other e (same_fitted c.args.line.now c.written_line-text.result.items (located_line c.args.address c.args.located.now) c.written_line-text.ensures c.requires c.is_text.ensures.room h)
