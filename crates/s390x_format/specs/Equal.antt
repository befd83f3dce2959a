-- Two values of a format with the same slots are equal, field by field.
use Rattle.std.proofs.Common.{◌≡◌, ℕ, ◌<◌, List, ap, get_or}
use Rattle.std.specs.Coded.{le_prop}
use mathlib.Core.HLevel.{is_prop→PathP}
use mathlib.Core.Path.{PathP}

-- the slots at a place are equal
abbrev pub at : {xs ys : List ℕ} → (k : ℕ) → xs ≡ ys → get_or xs k 0 ≡ get_or ys k 0
at k e = ap (λ (xs : List ℕ). get_or xs k 0) e

-- and so are the proofs that they are below their limit
abbrev pub below : (limit : ℕ) {a b : ℕ} (p : a ≡ b) (h : a < limit) (k : b < limit) → PathP (λ i. p i < limit) h k
below limit p h k = is_prop→PathP (λ i. p i < limit) (λ i. le_prop) h k
