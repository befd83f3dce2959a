use Rattle.std.proofs.Common.{sym, ap, ◌∙◌}
use Rattle.std.specs.Str.{bytes_eq}
use Rattle.s390x_job_lines.proofs.Slots.{is_found, none_found}
use Rattle.s390x_job_lines.proofs.name.find_name.Goals as goal

pub returns-then-eq : goal.returns-then-eq
returns-then-eq c =
    let w = c.args.word.now in
    let t = ap (λ s. bytes_eq s w) (sym (c.as_bytes.ensures.value ∙ c.text.ensures)) in
    is_found c.candidate-name.result w (t ∙ sym c.eq.ensures ∙ c.if-eq.true)

pub returns-else-eq : goal.returns-else-eq
returns-else-eq c =
    let w = c.args.word.now in
    let t = ap (λ s. bytes_eq s w) (sym (c.as_bytes.ensures.value ∙ c.text.ensures)) in
    none_found c.candidate-name.result w c.candidate-name.ensures (t ∙ sym c.eq.ensures ∙ c.if-eq.false)
