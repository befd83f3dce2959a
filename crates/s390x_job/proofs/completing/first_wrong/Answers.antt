use Rattle.std.proofs.Common.{◌≡◌, ℕ, List, Bor, length, map, take, ap, ◌∙◌, subst, arith}
use Rattle.std.proofs.lemmas.List.{length-map}
use Rattle.s390x_job.specs.Completions.{text_of_lines}
use Rattle.s390x_job.proofs.Sizes.{pieces_few, pieces_short}
use Rattle.s390x_job.proofs.completing.first_wrong.Goals as goal

same : (s t : List (Bor (List ℕ))) (ps : List (List ℕ)) → s ≡ t → map (λ (w : Bor (List ℕ)). w.now) t ≡ ps → map (λ (w : Bor (List ℕ)). w.now) s ≡ ps
same s t ps e f = ap (map (λ (w : Bor (List ℕ)). w.now)) e ∙ f

pub first_wrong_of_lines-requires-clause-above : goal.first_wrong_of_lines-requires-clause-above
first_wrong_of_lines-requires-clause-above g c =
    let s = c.deref.result.now in
    let e = same s _ _ c.deref.ensures.value c.in_ok-ws.ensures in
    λ m h q t. c.requires.stuck.above m h (omega (arith, q, ap length e, length-map s (λ (w : Bor (List ℕ)). w.now))) (subst (λ ws. g.T.Completes.IsWhole (g.T.Completes.completed (take m ws))) e t)

pub first_wrong_of_lines-requires-clause-small : goal.first_wrong_of_lines-requires-clause-small
first_wrong_of_lines-requires-clause-small g c =
    let s = c.deref.result.now in
    let e = same s _ _ c.deref.ensures.value c.in_ok-ws.ensures in
    omega (arith, c.requires.stuck.small, ap length e, length-map s (λ (w : Bor (List ℕ)). w.now))

pub first_wrong_of_lines-requires-clause-short : goal.first_wrong_of_lines-requires-clause-short
first_wrong_of_lines-requires-clause-short g c =
    let e = same c.deref.result.now _ _ c.deref.ensures.value c.in_ok-ws.ensures in
    omega (arith, c.requires.short, ap (λ ws. length (text_of_lines ws)) e, pieces_short c.args.bytes.now)

pub overflow_cast-result : goal.overflow_cast-result
overflow_cast-result g c =
    let e = same c.deref.result.now _ _ c.deref.ensures.value c.in_ok-ws.ensures in
    let n = c.in_ok-n.ensures in
    omega (arith, n.is, n.small, ap length e, pieces_few c.args.bytes.now, c.requires.fits)
