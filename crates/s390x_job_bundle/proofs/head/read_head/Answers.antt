use Rattle.std.proofs.Common.{sym, ◌∙◌, codes}
use Rattle.std.proofs.lemmas.Bool.{false≢true}
use Rattle.std.proofs.lemmas.Slice.Eq.{bytes_eq-Decides}
use Rattle.s390x_job_bundle.proofs.Heads.{not_head}
use Rattle.s390x_job_bundle.proofs.head.read_head.Goals as goal

pub returns-else-branch : goal.returns-else-branch
returns-else-branch c =
    (λ e. false≢true (sym c.if-closes_text.false ∙ c.closes_text.ensures ∙ (bytes_eq-Decides c.args.line.now (codes "close")).1 e), not_head c.args.line.now c.name_in-name.result _ c.name_in-name.ensures c.in_ok-is_head.ensures c.if-branch.false)
