-- The bytes of an image of several members: each member's at its start, and zeros between.
use Rattle.std.specs.Prelude.{◌≡◌, ℕ, ◌+◌, ◌-◌, ◌<◌, ◌≤◌, List, [], ◌∷◌, ◌++◌, length, map, replicate, Option, Some, None, slice_get}
use Rattle.s390x_bundle.specs.declared.places.Extent.{Extent}

-- the code and constants of a member, and where they start
pub record Part : Type 0 where
  pub start : ℕ
  pub bytes : List ℕ

-- so many zeros
abbrev pub zeros : ℕ → List ℕ
zeros n = replicate n 0

-- a part behind so many bytes, with zeros between
abbrev pub part_behind : (end : ℕ) → Part → List ℕ
part_behind end p = zeros (p.start - end) ++ p.bytes

-- where a part ends
abbrev pub end_of : Part → ℕ
end_of p = p.start + length p.bytes

-- these parts behind so many bytes
abbrev pub parts_behind : (end : ℕ) → List Part → List ℕ
parts_behind end [] = []
parts_behind end (p ∷ ps) = part_behind end p ++ parts_behind (end_of p) ps

-- each part starts behind the one before it, and the first one behind so many bytes
abbrev pub Rise : (end : ℕ) → List Part → Type 0
Rise end [] = Unit {0}
Rise end (p ∷ ps) = (end ≤ p.start) × Rise (end_of p) ps

-- the part's bytes stand in the whole at its start
pub record PartStands (whole : List ℕ) (p : Part) : Type 0 where
  pub earlier : List ℕ
  pub later : List ℕ
  pub bytes : whole ≡ earlier ++ (p.bytes ++ later)
  pub at : length earlier ≡ p.start

-- no part has this offset
abbrev pub IsBetween : List Part → ℕ → Type 0
IsBetween ps o = (i : ℕ) (p : Part) → slice_get ps i ≡ Some p → p.start ≤ o → o < end_of p → ⊥

-- bytes at their starts
abbrev pub parts_at : List ℕ → List (List ℕ) → List Part
parts_at (s ∷ ss) (bs ∷ bss) = record { start = s; bytes = bs } ∷ parts_at ss bss
parts_at _ _ = []

-- these are the bytes of members of these extents
abbrev pub AreOfExtents : List Extent → List (List ℕ) → Type 0
AreOfExtents xs bss = map (λ bs. length bs) bss ≡ map (λ (x : Extent). x.size) xs

-- where the member before ends; 0 where there is none
abbrev pub end_or_zero : Option ℕ → ℕ
end_or_zero None = 0
end_or_zero (Some end) = end
