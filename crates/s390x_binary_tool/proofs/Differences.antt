-- The first difference of two texts, byte by byte.
use Rattle.std.proofs.Common.{◌≡◌, ◌≢◌, ℕ, suc, ◌+◌, ◌<◌, ◌≤◌, List, [], ◌∷◌, inl, inr, length, get_or, drop, drop-cons, refl, ap, ◌∙◌, arith}
use Rattle.std.specs.Prelude.{min, nat_le}
use Rattle.std.proofs.lemmas.List.{drop_all}
use Rattle.s390x_job.proofs.Whole.{either}
use Rattle.s390x_binary_tool.specs.ImageText.{IsFirstDifference, common_length}

-- so many first bytes are the same
pub record SameTo (xs ys : List ℕ) (n : ℕ) : Type 0 where
  pub common : common_length xs ys ≡ n + common_length (drop n xs) (drop n ys)

-- the byte there, and those behind it
front : (xs : List ℕ) (n : ℕ) → n < length xs → drop n xs ≡ get_or xs n 0 ∷ drop (n + 1) xs
front xs n lt = let k : suc n ≡ n + 1 = omega arith in drop-cons xs n 0 lt ∙ ap (λ m. get_or xs n 0 ∷ drop m xs) k

none_left : (xs : List ℕ) → common_length xs [] ≡ 0
none_left [] = refl
none_left (x ∷ xs) = refl

-- one of both ends there
ended : (xs ys : List ℕ) (n : ℕ) → n ≡ min (length xs) (length ys) → common_length (drop n xs) (drop n ys) ≡ 0
ended xs ys n is =
    elim (either (nat_le (length xs) n)) [
      | inl e ↦
          let few : length xs ≤ n = grind (arith, e) in
          ap (λ a. common_length a (drop n ys)) (drop_all n xs few)
      | inr e ↦
          let more : n < length xs = grind (arith, e) in
          let few : length ys ≤ n = omega (arith, is, more) in
          ap (common_length (drop n xs)) (drop_all n ys few) ∙ none_left (drop n xs)
    ]

pub differ_end : (xs ys : List ℕ) (n : ℕ) → SameTo xs ys n → n ≡ min (length xs) (length ys) → length xs ≢ length ys → IsFirstDifference xs ys n
differ_end xs ys n s is other = (λ same. other (ap length same), omega (arith, s.common, ended xs ys n is))

-- as many as there are
all_common : (xs ys : List ℕ) → length xs ≡ length ys → common_length xs ys ≡ length xs → xs ≡ ys
all_common [] [] l c = refl
all_common (x ∷ xs) (y ∷ ys) l c = grind (arith, all_common xs ys)
all_common xs ys l c = absurd (omega (arith, l))

pub same_all : (xs ys : List ℕ) (n : ℕ) → SameTo xs ys n → n ≡ min (length xs) (length ys) → length xs ≡ length ys → xs ≡ ys
same_all xs ys n s is l = all_common xs ys l (omega (arith, s.common, ended xs ys n is, l))
