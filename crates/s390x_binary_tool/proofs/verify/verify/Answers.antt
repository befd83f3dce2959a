use Rattle.std.proofs.Common.{◌++◌, sym, subst}
use Rattle.std.specs.Prelude.{codes}
use Rattle.std.specs.Fmt.{decimal}
use Rattle.s390x_tool.specs.Lines.{IsMade, line}
use Rattle.s390x_tool.specs.declared.status.Status.TheVariants as status
use Rattle.s390x_binary_tool.proofs.Answering.{verify_job_syntax}
use Rattle.s390x_binary_tool.proofs.verify.verify.Goals as goal

pub returns-in-Err-Syntax : goal.returns-in-Err-Syntax
returns-in-Err-Syntax c =
    let n = c.in-Err-Syntax.line in
    verify_job_syntax c.args.base c.args.input.now c.job_size-size.result n c.syntax.result.status _ _ c.job_size-size.ensures.cut (rw c.in-Err-Syntax.field-0-is at c.in-Err-Syntax.ensures.error)
    (subst (λ t. IsMade status.Syntax (line (codes "syntax " ++ decimal n)) c.syntax.result.status t) (sym c.shared_reply.ensures.text) c.syntax.ensures) c.shared_reply.ensures.status
