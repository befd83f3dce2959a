-- A format's layout: a list of parts, from the most significant bit down (Principles of Operation, chapter 5, "Instruction formats").
use Rattle.std.specs.Prelude.{◌≡◌, ℕ, zero, suc, ◌+◌, ◌*◌, ◌/◌, ◌%◌, ◌^◌, ◌<◌, Bool, true, false, ◌&&◌, ◌||◌, ◌==◌, nat_le, nat_lt, List, [], ◌∷◌, length, slice_index, if◌then◌else◌}
use Rattle.s390x_format.specs.declared.layouts.Part.{Part}

-- how many bits the parts have
unfoldable pub bits : List Part → ℕ
bits [] = 0
bits (p ∷ ps) = p.width + bits ps

-- the bits of a value that a part has
abbrev pub piece : ℕ → Part → ℕ
piece v p = v / 2 ^ p.low % 2 ^ p.width

-- the number with the fields' bits at the parts' places
unfoldable pub number : List Part → List ℕ → ℕ
number [] fs = 0
number (p ∷ ps) fs = piece (slice_index fs p.slot) p * 2 ^ bits ps + number ps fs

-- the value that a number has in slot k
unfoldable pub field : List Part → ℕ → ℕ → ℕ
field [] n k = 0
field (p ∷ ps) n k = (if p.slot == k then n / 2 ^ bits ps % 2 ^ p.width * 2 ^ p.low else 0) + field ps n k

-- the parts of slot k
unfoldable pub parts_of : ℕ → List Part → List Part
parts_of k [] = []
parts_of k (p ∷ ps) = if p.slot == k then p ∷ parts_of k ps else parts_of k ps

-- the bits of the value in slot k
abbrev pub width_of_part : ℕ → List Part → ℕ
width_of_part k ps = bits (parts_of k ps)

-- the parts are one value, whole
unfoldable pub is_whole : List Part → Bool
is_whole [] = true
is_whole (p ∷ []) = p.low == 0
is_whole (p ∷ q ∷ []) = ((p.low == 0) && (q.low == p.width)) || ((q.low == 0) && (p.low == q.width))
is_whole (p ∷ q ∷ r ∷ ps) = false

-- the value of each slot below k is whole, and has at most 32 bits
unfoldable pub slots_ok : ℕ → List Part → Bool
slots_ok zero ps = true
slots_ok (suc k) ps = is_whole (parts_of k ps) && (nat_le (width_of_part k ps) 32) && slots_ok k ps

-- no part begins above bit 31 of its value, and none has more than 32 bits
unfoldable pub is_narrow : List Part → Bool
is_narrow [] = true
is_narrow (p ∷ ps) = nat_le (p.low) 31 && nat_le (p.width) 32 && is_narrow ps

-- 16, 32 or 48 bits, and each slot's value whole
abbrev pub is_layout : List Part → Bool
is_layout ps = ((bits ps == 16) || (bits ps == 32) || (bits ps == 48)) && is_narrow ps && slots_ok 10 ps

-- ten values, each in the bits that the layout has for it
abbrev pub SlotsFit : List Part → List ℕ → Type 0
SlotsFit ps fs = (length fs ≡ 10) × ((k : ℕ) → k < 10 → slice_index fs k < 2 ^ width_of_part k ps)

-- the bits of no field are zero
unfoldable pub zero_bits : List Part → ℕ → Bool
zero_bits [] n = true
zero_bits (p ∷ ps) n = (nat_lt p.slot 10 || (n / 2 ^ bits ps % 2 ^ p.width == 0)) && zero_bits ps n
