use Rattle.std.proofs.Common.{Err, ap, ◌∙◌}
use Rattle.s390x_binary_tool.proofs.Answering.{assemble_syntax}
use Rattle.s390x_binary_tool.proofs.assemble.assemble.Goals as goal

pub returns-in-Err-Syntax : goal.returns-in-Err-Syntax
returns-in-Err-Syntax c =
    let said = c.in-Err-Syntax in
    assemble_syntax c.args.base c.args.input.now said.line _ _ (c.assemble.ensures.error said.line (said.is ∙ ap Err said.field-0-is)) (c.assemble.ensures.line said.line (said.is ∙ ap Err said.field-0-is)) c.wrong_at.ensures
