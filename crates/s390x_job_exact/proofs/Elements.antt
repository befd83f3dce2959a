-- Lists, element by element.
use Rattle.std.proofs.Common.{◌≡◌, ℕ, ◌<◌, List, [], ◌∷◌, ◌++◌, length, sym, ap, ◌∙◌, arith, append_assoc}
use Rattle.std.proofs.lemmas.List.{append-nil, length-append}
use Rattle.s390x_job_fields.specs.Lists.{AllItems, more_text, open_text}
use Rattle.s390x_job_exact.specs.Exact.{TakesElement, TakesElements, TakesList}

module _ {A : Type 0} (spelling : A → List ℕ) (IsIn : A → Type 0) where
  all_items : (xs : List A) (y : A) → AllItems IsIn xs → IsIn y → AllItems IsIn (xs ++ y ∷ [])
  all_items [] y h k = (k, tt)
  all_items (x ∷ xs) y h k = (h.0, all_items xs y h.1 k)

  more_added : (xs : List A) (y : A) → more_text spelling (xs ++ y ∷ []) ≡ more_text spelling xs ++ 44 ∷ spelling y
  more_added [] y = ap (λ t. 44 ∷ t) (append-nil (spelling y))
  more_added (x ∷ xs) y =
      ap (λ t. 44 ∷ (spelling x ++ t)) (more_added xs y) ∙ ap (λ t. 44 ∷ t) (sym (append_assoc (spelling x) (more_text spelling xs) (44 ∷ spelling y)))

  open_added : (xs : List A) (y : A) → 0 < length xs → open_text spelling (xs ++ y ∷ []) ≡ open_text spelling xs ++ 44 ∷ spelling y
  open_added [] y h = absurd (omega arith)
  open_added (x ∷ xs) y h =
      ap (λ t. 91 ∷ (spelling x ++ t)) (more_added xs y) ∙ ap (λ t. 91 ∷ t) (sym (append_assoc (spelling x) (more_text spelling xs) (44 ∷ spelling y)))

  -- one more element
  pub one_more : (xs ys : List A) (x : A) (s t : List ℕ) → IsIn x → ys ≡ xs ++ x ∷ [] → s ≡ spelling x ++ t → TakesElement spelling IsIn xs ys s t
  one_more xs ys x s t h e f = record { element = x; in_range = h; added = e; taken = f }

  pub some : (xs ys : List A) (s t : List ℕ) → TakesElement spelling IsIn xs ys s t → 0 < length ys
  some xs ys s t h = omega (arith, ap length h.added, length-append xs (h.element ∷ []))

  pub shorter : (xs ys : List A) (s t u : List ℕ) → s ≡ 44 ∷ t → TakesElement spelling IsIn xs ys t u → length u < length s
  shorter xs ys s t u e h =
      omega (arith, ap length e, ap length h.taken, length-append (spelling h.element) u)

  -- no element
  pub nothing : (xs : List A) (s t : List ℕ) → xs ≡ [] → s ≡ 32 ∷ 91 ∷ 93 ∷ t → TakesList spelling IsIn xs s t
  nothing xs s t e f = rw e (record { in_range = tt; taken = f })

  -- the first element
  pub first : (xs : List A) (s t : List ℕ) → TakesElement spelling IsIn [] xs s t → TakesElements spelling IsIn [] xs s t
  first xs s t h = record {
    in_range = rw h.added (h.in_range, tt);
    taken = ap (λ u. 91 ∷ u) h.taken ∙ ap (λ u. 91 ∷ (u ++ t)) (sym (append-nil (spelling h.element))) ∙ ap (λ l. open_text spelling l ++ t) (sym h.added);
  }

  -- one more, behind a comma
  pub following : (xs ys : List A) (s t u : List ℕ) → 0 < length xs → AllItems IsIn xs → s ≡ 44 ∷ t → TakesElement spelling IsIn xs ys t u → TakesElements spelling IsIn xs ys s u
  following xs ys s t u p a e h = record {
    in_range = rw h.added (all_items xs h.element a h.in_range);
    taken = ap (λ w. open_text spelling xs ++ w) (e ∙ ap (λ w. 44 ∷ w) h.taken)
        ∙ sym (append_assoc (open_text spelling xs) (44 ∷ spelling h.element) u)
        ∙ ap (λ w. w ++ u) (sym (open_added xs h.element p))
        ∙ ap (λ l. open_text spelling l ++ u) (sym h.added);
  }

  pub joined : (xs ys zs : List A) (s t u : List ℕ) → TakesElements spelling IsIn xs ys s t → TakesElements spelling IsIn ys zs t u → TakesElements spelling IsIn xs zs s u
  joined xs ys zs s t u h k = record { in_range = k.in_range; taken = h.taken ∙ k.taken }

  pub closed : (xs : List A) (s t u v : List ℕ) → s ≡ 32 ∷ 91 ∷ t → TakesElements spelling IsIn [] xs t u → u ≡ 93 ∷ v → TakesList spelling IsIn xs s v
  closed xs s t u v e h f = record {
    in_range = h.in_range;
    taken = e ∙ ap (λ w. 32 ∷ w) (h.taken ∙ ap (λ w. open_text spelling xs ++ w) f ∙ sym (append_assoc (open_text spelling xs) (93 ∷ []) v));
  }
