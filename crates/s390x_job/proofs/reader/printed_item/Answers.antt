use Rattle.std.proofs.Common.{◌++◌, sym, ap, ◌∙◌}
use Rattle.std.proofs.lemmas.Slice.Eq.{bytes_eq-Decides}
use Rattle.s390x_job_lines.specs.Line.{line_text}
use Rattle.s390x_job.specs.Items.{item_line}
use Rattle.s390x_job.proofs.Exact.{yes, not_same}
use Rattle.s390x_job.proofs.reader.printed_item.Goals as goal

pub returns-then-eq : goal.returns-then-eq
returns-then-eq c =
    let i = c.in_ok-i.i in
    let out = c.as_bytes.result.now in
    let text = c.as_bytes.ensures.value ∙ c.in_ok-put_item.ensures ∙ ap (λ t. t ++ line_text (item_line i)) c.clear.ensures.bytes in
    (c.in_ok-i.ensures.is, yes i c.args.w.now c.in_ok-i.ensures.line, sym text ∙ (bytes_eq-Decides out c.args.w.now).0 (sym c.eq.ensures ∙ c.if-eq.true))

pub returns-else-eq : goal.returns-else-eq
returns-else-eq c =
    let i = c.in_ok-i.i in
    let out = c.as_bytes.result.now in
    let text = c.as_bytes.ensures.value ∙ c.in_ok-put_item.ensures ∙ ap (λ t. t ++ line_text (item_line i)) c.clear.ensures.bytes in
    not_same i c.args.w.now out c.in_ok-i.ensures.line text (sym c.eq.ensures ∙ c.if-eq.false)
