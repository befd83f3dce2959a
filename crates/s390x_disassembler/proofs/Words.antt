-- What stands before the first blank.
use Rattle.std.proofs.Common.{◌≡◌, ℕ, zero, suc, ◌<◌, ◌≤◌, List, [], ◌∷◌, ◌++◌, length, take, refl, ap, subst, arith}
use Rattle.std.specs.Prelude.{slice_index}
use Rattle.s390x_disassembler.specs.Words.{NoBlank}

-- a place before which no blank stands, and where one stands unless the text ends
pub record IsFirstBlank (text : List ℕ) (n : ℕ) : Type 0 where
  pub inside : n ≤ length text
  pub none : (k : ℕ) → k < n → slice_index text k ≡ 32 → ⊥
  pub there : n < length text → slice_index text n ≡ 32

cut : (xs p : List ℕ) (n : ℕ) → NoBlank xs → IsFirstBlank (xs ++ (32 ∷ p)) n → take n (xs ++ (32 ∷ p)) ≡ xs
cut [] p zero h b = refl
cut [] p (suc n) h b = absurd (b.none 0 (omega arith) refl)
cut (x ∷ xs) p zero h b = absurd (h.0 (b.there (omega arith)))
cut (x ∷ xs) p (suc n) h b =
    ap (λ (t : List ℕ). x ∷ t) (cut xs p n h.1 (record {
      inside = omega (arith, b.inside);
      none = λ k lt e. b.none (suc k) (omega (arith, lt)) e;
      there = λ lt. b.there (omega (arith, lt));
    }))

pub cut_blank : (text xs p : List ℕ) (n : ℕ) → IsFirstBlank text n → NoBlank xs → text ≡ xs ++ (32 ∷ p) → take n text ≡ xs
cut_blank text xs p n b h e = rw e (cut xs p n h (subst (λ (t : List ℕ). IsFirstBlank t n) e b))
