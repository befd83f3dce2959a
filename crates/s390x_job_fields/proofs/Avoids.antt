-- Texts that avoid some bytes, and their words.
use Rattle.std.proofs.Common.{◌≡◌, ℕ, Bool, true, false, List, [], ◌∷◌, ◌++◌, refl, sym, ap, ◌∙◌, inl, inr}
use Rattle.std.specs.Prelude.{◌==◌, ◌&&◌, not}
use Rattle.std.proofs.lemmas.Bool.{false≢true, and_parts, eqb-true}
use Rattle.s390x_job_fields.specs.Marks.{among, is_mark, before_mark, from_mark, word, after_word, upto, past}
use Rattle.s390x_job_fields.proofs.Members.{either, number-self, or-false}

abbrev pub Avoids : List ℕ → List ℕ → Type 0
Avoids bad [] = Unit {0}
Avoids bad (x ∷ s) = (among x bad ≡ false) × Avoids bad s

abbrev pub avoids : List ℕ → List ℕ → Bool
avoids bad [] = true
avoids bad (x ∷ s) = not (among x bad) && avoids bad s

heads : (a b : Bool) → (not a && b) ≡ true → (a ≡ false) × (b ≡ true)
heads true b h = absurd cc
heads false b h = (refl, h)

pub Avoids-test : (bad s : List ℕ) → avoids bad s ≡ true → Avoids bad s
Avoids-test bad [] h = tt
Avoids-test bad (x ∷ s) h = let p = heads (among x bad) (avoids bad s) h in (p.0, Avoids-test bad s p.1)

pub Avoids-append : (bad a b : List ℕ) → Avoids bad a → Avoids bad b → Avoids bad (a ++ b)
Avoids-append bad [] b h k = k
Avoids-append bad (x ∷ a) b h k = (h.0, Avoids-append bad a b h.1 k)

abbrev pub covers : List ℕ → List ℕ → Bool
covers xs [] = true
covers xs (y ∷ ys) = among y xs && covers xs ys

fewer : (xs ys : List ℕ) → covers xs ys ≡ true → (z : ℕ) → among z xs ≡ false → among z ys ≡ false
fewer xs [] h z a = refl
fewer xs (y ∷ ys) h z a =
    let p = and_parts (among y xs) (covers xs ys) h in
    elim (either (z == y)) [ inl e ↦ absurd (false≢true (sym a ∙ ap (λ w. among w xs) (eqb-true z y e) ∙ p.0)) | inr e ↦ rw e (fewer xs ys p.1 z a) ]

pub Avoids-fewer : (xs ys : List ℕ) → covers xs ys ≡ true → (s : List ℕ) → Avoids xs s → Avoids ys s
Avoids-fewer xs ys h [] a = tt
Avoids-fewer xs ys h (x ∷ s) a = (fewer xs ys h x a.0, Avoids-fewer xs ys h s a.1)

-- the bytes that stand between words
abbrev pub marks : List ℕ
marks = 10 ∷ 32 ∷ 40 ∷ 41 ∷ 91 ∷ 93 ∷ 44 ∷ 58 ∷ 47 ∷ 61 ∷ 33 ∷ 64 ∷ []

-- a word
abbrev pub IsOneWord : List ℕ → Type 0
IsOneWord w = Avoids marks w

-- a text that ends a word
abbrev pub Ends : List ℕ → Type 0
Ends [] = Unit {0}
Ends (x ∷ s) = is_mark x ≡ true

pub front-is : (w r : List ℕ) → IsOneWord w → Ends r → before_mark (w ++ r) ≡ w
front-is [] [] h e = refl
front-is [] (x ∷ r) h e = rw e refl
front-is (x ∷ w) r h e = rw h.0 (ap (λ l. x ∷ l) (front-is w r h.1 e))

pub back-is : (w r : List ℕ) → IsOneWord w → Ends r → from_mark (w ++ r) ≡ r
back-is [] [] h e = refl
back-is [] (x ∷ r) h e = rw e refl
back-is (x ∷ w) r h e = rw h.0 (back-is w r h.1 e)

pub word-is : (x : ℕ) (w r : List ℕ) → IsOneWord w → Ends r → word (x ∷ (w ++ r)) ≡ w
unfolding word
word-is x w r h e = front-is w r h e

pub after-is : (x : ℕ) (w r : List ℕ) → IsOneWord w → Ends r → after_word (x ∷ (w ++ r)) ≡ r
unfolding after_word
after-is x w r h e = back-is w r h e

pub upto-is : (c : ℕ) (w r : List ℕ) → Avoids (c ∷ []) w → upto c (w ++ (c ∷ r)) ≡ w
upto-is c [] r h = rw (number-self c) refl
upto-is c (x ∷ w) r h = let e = sym (or-false (x == c)) ∙ h.0 in rw e (ap (λ l. x ∷ l) (upto-is c w r h.1))

pub past-is : (c : ℕ) (w r : List ℕ) → Avoids (c ∷ []) w → past c (w ++ (c ∷ r)) ≡ r
past-is c [] r h = rw (number-self c) refl
past-is c (x ∷ w) r h = let e = sym (or-false (x == c)) ∙ h.0 in rw e (past-is c w r h.1)
