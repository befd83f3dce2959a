use Rattle.std.proofs.Common.{◌≡◌, ◌<◌, ℕ, List, Bor, length, map, take, sym, ◌∙◌, subst, refl, inl, inr, arith}
use Rattle.std.proofs.lemmas.List.{take-map, length-map}
use Rattle.std.proofs.lemmas.Bool.{cases_lt, false≢true}
use Rattle.s390x_job.specs.Completions.{text_of_lines}
use Rattle.s390x_job.proofs.Sizes.{take_shorter}
use Rattle.s390x_job.proofs.completing.first_wrong_of_lines.Goals as goal

abbrev texts : List (Bor (List ℕ)) → List (List ℕ)
texts s = map (λ (w : Bor (List ℕ)). w.now) s

-- the first lines are the lines of the first slices
first : (s : List (Bor (List ℕ))) (k : ℕ) → take k (texts s) ≡ texts (take k s)
first s k = take-map (λ (w : Bor (List ℕ)). w.now) k s

counted : (s : List (Bor (List ℕ))) → length (texts s) ≡ length s
counted s = length-map s (λ (w : Bor (List ℕ)). w.now)

pub can_be_completed-requires : goal.can_be_completed-requires
can_be_completed-requires g c =
    let s = c.args.ws.now in
    subst (λ vs. length (text_of_lines vs) < g.T.Completes.limit) (first s c.loop-k.k) (omega (arith, take_shorter c.loop-k.k (texts s), c.requires.short))

pub returns-then-branch : goal.returns-then-branch
returns-then-branch g c =
    let s = c.args.ws.now in
    let n = counted s in
    record {
      k = c.loop-k.k;
      is = refl;
      small = omega (arith, c.loop-k.invariant.0, n);
      here = inr (subst (λ vs. g.T.Completes.IsWhole (g.T.Completes.completed vs)) (sym (first s c.loop-k.k)) (c.in_ok-can_be_completed.ensures.0 c.if-branch.true));
      above = λ m h q t. c.loop-k.invariant.1 m h (omega (arith, q, n)) t;
    }

pub loop-k-preserved : goal.loop-k-preserved
loop-k-preserved g c =
    let s = c.args.ws.now in
    (omega (arith, c.loop-k.invariant.0), λ m h q t. elim (cases_lt c.loop-k.k m) [ inl l ↦ c.loop-k.invariant.1 m l q t | inr l ↦ let e : m ≡ c.loop-k.k = omega arith in let u = subst (λ n. g.T.Completes.IsWhole (g.T.Completes.completed (take n (texts s)))) e t in false≢true (sym c.if-branch.false ∙ c.in_ok-can_be_completed.ensures.1 (subst (λ vs. g.T.Completes.IsWhole (g.T.Completes.completed vs)) (first s c.loop-k.k) u)) ])

pub returns : goal.returns
returns g c =
    let n = counted c.args.ws.now in
    record {
      k = 0;
      is = refl;
      small = omega arith;
      here = inl refl;
      above = λ m h q t. c.loop-k.invariant.1 m (omega arith) (omega (arith, q, n)) t;
    }
