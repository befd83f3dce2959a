-- Lists: reading gives back what was printed.
use Rattle.std.proofs.Common.{◌≡◌, ℕ, ◌<◌, false, List, [], ◌∷◌, ◌++◌, length, refl, ap, ◌∙◌, arith, append_assoc}
use Rattle.std.specs.Prelude.{◌==◌, if◌then◌else◌}
use Rattle.std.proofs.lemmas.Bool.Decides.{nat_tests}
use Rattle.s390x_job_fields.specs.Marks.{upto, past}
use Rattle.s390x_job_fields.specs.Lists.{more_text, open_text, list_text, AllItems, elements, list_of}
use Rattle.s390x_job_fields.proofs.Avoids.{Avoids, Avoids-append, Avoids-fewer, marks, IsOneWord, Ends, upto-is, past-is}

-- the bytes that stand in no element
abbrev pub bounds : List ℕ
bounds = 91 ∷ 44 ∷ 93 ∷ 10 ∷ []

abbrev pub Inner : List ℕ → Type 0
Inner w = Avoids bounds w

pub Inner-one_word : (w : List ℕ) → IsOneWord w → Inner w
Inner-one_word w h = Avoids-fewer marks bounds refl w h

pub Inner-append : (a b : List ℕ) → Inner a → Inner b → Inner (a ++ b)
Inner-append a b h k = Avoids-append bounds a b h k

-- what lists need of their elements
pub record IsElement {A : Type 0} (spelling : A → List ℕ) (reading : List ℕ → A) (P : A → Type 0) : Type 0 where
  pub reads : (x : A) → P x → (c : ℕ) (s : List ℕ) → Ends s → reading (c ∷ (spelling x ++ s)) ≡ x
  pub inner : (x : A) → P x → Inner (spelling x)
  pub some : (x : A) → P x → 0 < length (spelling x)

skip : {A : Type 0} (reading : List ℕ → A) (w s : List ℕ) → Avoids (91 ∷ 44 ∷ []) w → elements reading (w ++ s) ≡ elements reading s
skip reading [] s h = refl
skip reading (x ∷ w) s h = rw h.0 (skip reading w s h.1)

module _ {A : Type 0} (spelling : A → List ℕ) (reading : List ℕ → A) (P : A → Type 0) (law : IsElement spelling reading P) where
  more_ends : (xs : List A) → Ends (more_text spelling xs)
  more_ends [] = tt
  more_ends (x ∷ xs) = refl

  more_round_trip : (xs : List A) → AllItems P xs → elements reading (more_text spelling xs) ≡ xs
  more_round_trip [] h = refl
  more_round_trip (x ∷ xs) h =
      let a = law.reads x h.0 44 (more_text spelling xs) (more_ends xs) in
      let b = skip reading (spelling x) (more_text spelling xs) (Avoids-fewer bounds (91 ∷ 44 ∷ []) refl (spelling x) (law.inner x h.0)) in
      rw (a, b) (ap (λ l. x ∷ l) (more_round_trip xs h.1))

  more_avoids : (xs : List A) → AllItems P xs → Avoids (93 ∷ 10 ∷ []) (more_text spelling xs)
  more_avoids [] h = tt
  more_avoids (x ∷ xs) h =
      (refl, Avoids-append (93 ∷ 10 ∷ []) (spelling x) (more_text spelling xs) (Avoids-fewer bounds (93 ∷ 10 ∷ []) refl (spelling x) (law.inner x h.0)) (more_avoids xs h.1))

  open_avoids : (xs : List A) → AllItems P xs → Avoids (93 ∷ 10 ∷ []) (open_text spelling xs)
  open_avoids [] h = (refl, tt)
  open_avoids (x ∷ xs) h =
      (refl, Avoids-append (93 ∷ 10 ∷ []) (spelling x) (more_text spelling xs) (Avoids-fewer bounds (93 ∷ 10 ∷ []) refl (spelling x) (law.inner x h.0)) (more_avoids xs h.1))

  not_empty : (w s : List ℕ) → 0 < length w → (length (91 ∷ (w ++ s)) == 1) ≡ false
  not_empty [] s h = absurd (omega arith)
  not_empty (x ∷ w) s h = grind (arith, nat_tests)

  inside : List ℕ → List A
  inside g = if length g == 1 then [] else elements reading g

  many : (g : List ℕ) → (length g == 1) ≡ false → inside g ≡ elements reading g
  unfolding inside
  many g h = rw h refl

  pub list-round_trip : (xs : List A) → AllItems P xs → (r : List ℕ) → list_of reading (list_text spelling xs ++ r) ≡ xs
  unfolding inside
  list-round_trip [] h r = refl
  list-round_trip (x ∷ xs) h r =
      let w = open_text spelling (x ∷ xs) in
      let e = append_assoc w (93 ∷ []) r in
      let u : upto 93 (list_text spelling (x ∷ xs) ++ r) ≡ w = ap (upto 93) e ∙ upto-is 93 w r (Avoids-fewer (93 ∷ 10 ∷ []) (93 ∷ []) refl w (open_avoids (x ∷ xs) h)) in
      let a = law.reads x h.0 91 (more_text spelling xs) (more_ends xs) in
      let b = skip reading (spelling x) (more_text spelling xs) (Avoids-fewer bounds (91 ∷ 44 ∷ []) refl (spelling x) (law.inner x h.0)) in
      let n = not_empty (spelling x) (more_text spelling xs) (law.some x h.0) in
      ap inside u ∙ many w n ∙ ap (λ y. y ∷ elements reading (spelling x ++ more_text spelling xs)) a ∙ ap (λ l. x ∷ l) (b ∙ more_round_trip xs h.1)

  pub list-past : (xs : List A) → AllItems P xs → (r : List ℕ) → past 93 (list_text spelling xs ++ r) ≡ r
  list-past xs h r =
      let w = open_text spelling xs in
      ap (past 93) (append_assoc w (93 ∷ []) r) ∙ past-is 93 w r (Avoids-fewer (93 ∷ 10 ∷ []) (93 ∷ []) refl w (open_avoids xs h))

  pub list-feed : (xs : List A) → AllItems P xs → Avoids (10 ∷ []) (list_text spelling xs)
  list-feed xs h =
      Avoids-append (10 ∷ []) (open_text spelling xs) (93 ∷ []) (Avoids-fewer (93 ∷ 10 ∷ []) (10 ∷ []) refl (open_text spelling xs) (open_avoids xs h)) (refl, tt)
