-- Lists: `[x,y]`, `[]`.
use Rattle.std.specs.Prelude.{ℕ, Bool, List, [], ◌∷◌, ◌++◌, length, codes, if◌then◌else◌, ◌==◌}
use Rattle.s390x_job_fields.specs.Marks.{among, upto}

-- elements, each behind a comma
abbrev pub more_text : {A : Type 0} → (A → List ℕ) → List A → List ℕ
more_text spelling [] = []
more_text spelling (x ∷ xs) = 44 ∷ (spelling x ++ more_text spelling xs)

-- the opening bracket, and all up to the closing one
abbrev pub open_text : {A : Type 0} → (A → List ℕ) → List A → List ℕ
open_text spelling [] = 91 ∷ []
open_text spelling (x ∷ xs) = 91 ∷ (spelling x ++ more_text spelling xs)

-- a list in brackets, its elements joined by commas
abbrev pub list_text : {A : Type 0} → (A → List ℕ) → List A → List ℕ
list_text spelling xs = open_text spelling xs ++ (93 ∷ [])

-- P holds of each element
abbrev pub AllItems : {A : Type 0} → (A → Type 0) → List A → Type 0
AllItems P [] = Unit {0}
AllItems P (x ∷ xs) = P x × AllItems P xs

-- what stands before an element
abbrev pub begins_element : ℕ → Bool
begins_element x = among x (codes "[,")

-- the elements, each read from its mark on
abbrev pub elements : {A : Type 0} → (List ℕ → A) → List ℕ → List A
elements reading [] = []
elements reading (x ∷ s) = if begins_element x then reading (x ∷ s) ∷ elements reading s else elements reading s

-- the list whose opening bracket s begins with
abbrev pub list_of : {A : Type 0} → (List ℕ → A) → List ℕ → List A
list_of reading s = if length (upto 93 s) == 1 then [] else elements reading (upto 93 s)
