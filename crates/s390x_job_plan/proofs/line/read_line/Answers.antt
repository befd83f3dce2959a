use Rattle.std.proofs.Common.{◌++◌, sym, ap, ◌∙◌, subst}
use Rattle.std.proofs.lemmas.Slice.Eq.{bytes_eq-Decides}
use Rattle.s390x_job_plan.specs.Errors.{line_value}
use Rattle.s390x_job_plan.specs.Lines.{IsLine, line_text}
use Rattle.s390x_job_plan.proofs.Spelling.{not_line, read_ok}
use Rattle.s390x_job_plan.proofs.line.read_line.Goals as goal

pub returns-then-eq : goal.returns-then-eq
returns-then-eq c =
    let l = c.in_ok-line.line in
    let out = c.as_bytes.result.now in
    let text = c.as_bytes.ensures.value ∙ c.in_ok-put_line.ensures ∙ ap (λ t. t ++ line_text (line_value l)) c.clear.ensures.bytes in
    (subst IsLine (sym c.in_ok-line.ensures) (read_ok c.args.w.now), sym text ∙ (bytes_eq-Decides out c.args.w.now).0 (sym c.eq.ensures ∙ c.if-eq.true))

pub returns-else-eq : goal.returns-else-eq
returns-else-eq c =
    let l = c.in_ok-line.line in
    let out = c.as_bytes.result.now in
    let text = c.as_bytes.ensures.value ∙ c.in_ok-put_line.ensures ∙ ap (λ t. t ++ line_text (line_value l)) c.clear.ensures.bytes in
    not_line (line_value l) c.args.w.now out c.in_ok-line.ensures text (sym c.eq.ensures ∙ c.if-eq.false)
