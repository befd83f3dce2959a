-- The text of several lines.
use Rattle.std.proofs.Common.{◌≡◌, ℕ, suc, ◌+◌, ◌<◌, List, [], ◌∷◌, ◌++◌, length, get_or, drop, refl, sym, ap, ◌∙◌, inl, inr, arith, append_assoc}
use Rattle.std.specs.Prelude.{◌==◌, Result, Ok, Err, OnOk}
use Rattle.s390x_base.specs.Registers.{RealRegister}
use Rattle.s390x_job_fields.proofs.Members.{either}
use Rattle.std.proofs.lemmas.List.{drop_more}
use Rattle.s390x_job_lines.specs.Line.{Line, line_text}
use Rattle.s390x_job.specs.Jobs.{lines_text, start_lines}

pub lines_text_append : (a b : List Line) → lines_text (a ++ b) ≡ lines_text a ++ lines_text b
lines_text_append [] b = refl
lines_text_append (l ∷ a) b =
    ap (λ t. line_text l ++ (10 ∷ t)) (lines_text_append a b) ∙ sym (append_assoc (line_text l) (10 ∷ lines_text a) (lines_text b))

-- a loop that prints the lines of each element
pub more_lines : {X : Type 0} (F : List X → List Line) (g : X → List Line) → ((x : X) (xs : List X) → F (x ∷ xs) ≡ g x ++ F xs) → (xs : List X) (i : ℕ) (d : X) (old out new : List ℕ) → i < length xs → d ≡ get_or xs i d → new ≡ out ++ lines_text (g d) → out ++ lines_text (F (drop i xs)) ≡ old → new ++ lines_text (F (drop (i + 1) xs)) ≡ old
more_lines F g law xs i d old out new h e n inv =
    let x = get_or xs i d in
    let rest = F (drop (i + 1) xs) in
    let a : F (drop i xs) ≡ g x ++ rest = ap F (drop_more xs i d h) ∙ law x (drop (i + 1) xs) in
    ap (λ t. t ++ lines_text rest) (n ∙ ap (λ y. out ++ lines_text (g y)) e)
    ∙ append_assoc out (lines_text (g x)) (lines_text rest)
    ∙ ap (λ t. out ++ t) (sym (lines_text_append (g x) rest))
    ∙ ap (λ t. out ++ lines_text t) (sym a)
    ∙ inv

pub two_texts : (x y : List Line) (old a new : List ℕ) → a ≡ old ++ lines_text x → new ≡ a ++ lines_text y → new ≡ old ++ lines_text (x ++ y)
two_texts x y old a new p q =
    q ∙ ap (λ t. t ++ lines_text y) p ∙ append_assoc old (lines_text x) (lines_text y) ∙ ap (λ t. old ++ t) (sym (lines_text_append x y))

pub three_texts : (x y z : List Line) (old a b new : List ℕ) → a ≡ old ++ lines_text x → b ≡ a ++ lines_text y → new ≡ b ++ lines_text z → new ≡ old ++ lines_text (x ++ (y ++ z))
three_texts x y z old a b new p q r =
    two_texts x (y ++ z) old a new p (two_texts y z a b new q r)

-- what holds where a call succeeds
pub on_ok : {T E : Type 0} (r : Result T E) {P Q : Type 0} → (P → Q) → OnOk r P → OnOk r Q
on_ok (Ok x) f h = f h
on_ok (Err e) f h = tt

-- one register more
starts_step : (of : ℕ → RealRegister) (n v : ℕ) (vs : List ℕ) → start_lines of n (v ∷ vs) ≡ start_lines of n (v ∷ []) ++ start_lines of (suc n) vs
starts_step of n v vs = elim (either (v == 0)) [ inl e ↦ rw e refl | inr e ↦ rw e refl ]

pub starts_more : (of : ℕ → RealRegister) (xs : List ℕ) (n v : ℕ) (old out new : List ℕ) → n < length xs → v ≡ get_or xs n 0 → new ≡ out ++ lines_text (start_lines of n (v ∷ [])) → out ++ lines_text (start_lines of n (drop n xs)) ≡ old → new ++ lines_text (start_lines of (n + 1) (drop (n + 1) xs)) ≡ old
starts_more of xs n v old out new h e p inv =
    let rest = start_lines of (n + 1) (drop (n + 1) xs) in
    let one = start_lines of n (v ∷ []) in
    let q : suc n ≡ n + 1 = omega arith in
    let a : start_lines of n (drop n xs) ≡ one ++ rest = ap (start_lines of n) (drop_more xs n 0 h) ∙ ap (λ w. start_lines of n (w ∷ drop (n + 1) xs)) (sym e) ∙ starts_step of n v (drop (n + 1) xs) ∙ ap (λ m. one ++ start_lines of m (drop (n + 1) xs)) q in
    ap (λ t. t ++ lines_text rest) p
    ∙ append_assoc out (lines_text one) (lines_text rest)
    ∙ ap (λ t. out ++ t) (sym (lines_text_append one rest))
    ∙ ap (λ t. out ++ lines_text t) (sym a)
    ∙ inv
