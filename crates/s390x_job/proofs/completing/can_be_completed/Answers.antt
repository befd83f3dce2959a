use Rattle.std.proofs.Common.{ℕ, List, Bor, map, ◌∙◌, subst}
use Rattle.std.specs.Prelude.{Decides}
use Rattle.s390x_job.proofs.completing.can_be_completed.Goals as goal

pub is_whole-requires : goal.is_whole-requires
is_whole-requires g c = (map (λ (w : Bor (List ℕ)). w.now) c.args.ws.now, c.requires, c.deref.ensures.value ∙ c.in_ok-text.ensures)

pub returns : goal.returns
returns g c = subst (λ t. Decides c.in_ok-is_whole.is_whole (g.T.Completes.IsWhole t)) (c.deref.ensures.value ∙ c.in_ok-text.ensures) c.in_ok-is_whole.ensures
