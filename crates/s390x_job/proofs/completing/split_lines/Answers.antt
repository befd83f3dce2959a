use Rattle.std.proofs.Common.{◌≡◌, ◌++◌, ◌∷◌, [], List, ℕ, Bor, length, map, sym, ap, ◌∙◌, arith, append_assoc, append-nil}
use Rattle.std.proofs.lemmas.List.{map-append}
use Rattle.s390x_job_fields.specs.Marks.{upto, past}
use Rattle.s390x_job.specs.Completions.{pieces}
use Rattle.s390x_job.proofs.Whole.{shorter, nil, behind}
use Rattle.s390x_job.proofs.Above.{pieces_cut, pieces_none}
use Rattle.s390x_job.proofs.Places.{some_left, none_left}
use Rattle.s390x_job.proofs.completing.split_lines.Goals as goal

done : (v : List (Bor (List ℕ))) (r s : List ℕ) → map (λ w. w.now) v ++ pieces r ≡ pieces s → pieces r ≡ [] → map (λ w. w.now) v ≡ pieces s
done v r s i e = sym (append-nil (map (λ w. w.now) v)) ∙ ap (λ t. map (λ w. w.now) v ++ t) (sym e) ∙ i

more : (v u : List (Bor (List ℕ))) (x : Bor (List ℕ)) (r q s : List ℕ) → u ≡ v ++ x ∷ [] → x.now ≡ upto 10 r → q ≡ past 10 r → (length (upto 10 r) ≡ length r → ⊥) → map (λ w. w.now) v ++ pieces r ≡ pieces s → map (λ w. w.now) u ++ pieces q ≡ pieces s
more v u x r q s a b d n i =
    ap (λ t. map (λ w. w.now) t ++ pieces q) a
    ∙ ap (λ t. t ++ pieces q) (map-append (λ (w : Bor (List ℕ)). w.now) v (x ∷ []))
    ∙ append_assoc (map (λ w. w.now) v) (x.now ∷ []) (pieces q)
    ∙ ap (λ t. map (λ w. w.now) v ++ (t ∷ pieces q)) b
    ∙ ap (λ t. map (λ w. w.now) v ++ (upto 10 r ∷ pieces t)) d
    ∙ ap (λ t. map (λ w. w.now) v ++ t) (sym (pieces_cut r n))
    ∙ i

pub loop-rest-smaller : goal.loop-rest-smaller
loop-rest-smaller c =
    let r = c.loop-rest.rest.now in
    let h = shorter 10 r (some_left (length r) c.is_empty.result c.is_empty.ensures c.loop-rest-test.true) in
    omega (arith, h, ap length (behind r c.tail-rest.result.now c.before-line.result.now c.tail-rest.ensures c.before-line.ensures))

pub returns-then-line-rest : goal.returns-then-line-rest
returns-then-line-rest c =
    let r = c.loop-rest.rest.now in
    let e : length (upto 10 r) ≡ length r = omega (arith, ap length c.before-line.ensures) in
    done c.loop-rest.v.items r c.args.bytes.now c.loop-rest.invariant (pieces_none r [] e)

pub loop-rest-preserved : goal.loop-rest-preserved
loop-rest-preserved c =
    more c.loop-rest.v.items c.push.new.self.items c.before-line.result c.loop-rest.rest.now c.tail-rest.result.now c.args.bytes.now c.in_ok-push.ensures.items c.before-line.ensures (behind c.loop-rest.rest.now c.tail-rest.result.now c.before-line.result.now c.tail-rest.ensures c.before-line.ensures) (λ e. absurd (omega (arith, ap length c.before-line.ensures, e))) c.loop-rest.invariant

pub returns : goal.returns
returns c =
    let r = c.loop-rest.rest.now in
    let n = none_left (length r) c.is_empty.result c.is_empty.ensures c.loop-rest-test.false in
    done c.loop-rest.v.items r c.args.bytes.now c.loop-rest.invariant (ap pieces (nil r n))
