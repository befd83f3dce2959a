use Rattle.std.proofs.Common.{◌≡◌, ◌++◌, length, take, drop, sym, ap, ◌∙◌}
use Rattle.std.proofs.lemmas.List.{take-append-drop}
use Rattle.std.specs.Cmp.Lexicographic.{same_text}
use Rattle.s390x_job_exact.proofs.cursor.ExactCursor.prefix.Goals as goal

pub returns : goal.returns
returns c =
    let s = c.self.inside.left.now in
    let v : c.args.self.now ≡ s = cc in
    let p = c.args.text.now in
    let e = c.in_ok-self-inside.ensures.cases in
    let t = same_text (take (length p) s) p (sym e.0) in
    v ∙ sym (take-append-drop (length p) s) ∙ ap (λ x. x ++ drop (length p) s) t ∙ ap (λ x. p ++ x) (sym e.1)
