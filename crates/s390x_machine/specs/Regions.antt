-- A memory of regions, the last one added first, and of bytes of older ones.
use Rattle.std.specs.Prelude.{◌≡◌, ℕ, ◌+◌, ◌-◌, ◌^◌, ◌<◌, Bool, true, false, ◌&&◌, ◌||◌, nat_le, nat_lt, if◌then◌else◌, List, [], ◌∷◌, length, get_or, slice_index, slice_set, Option, Some, None}
use Rattle.std.specs.Option.{is_some, unwrap_or}
use Rattle.std.specs.BTreeMap.{BTreeMap, get}
use Rattle.std.specs.Ordering.{nat_cmp}
use Rattle.s390x_operations.specs.State.{Write, wrapping_add64}
use Rattle.s390x_machine.specs.declared.flat.Region.{Region}
use Rattle.s390x_machine.specs.declared.flat.FlatMemory.{FlatMemory}

-- the address is that of one of the bytes from a start on
abbrev pub covers : ℕ → List ℕ → ℕ → Bool
covers start bytes a = nat_le start a && nat_lt (a - start) (length bytes)

-- it is, and there is such an address
abbrev pub has_address : ℕ → List ℕ → ℕ → Bool
has_address start bytes a = covers start bytes a && nat_lt a (2 ^ 64)

-- the bytes from a start on after the writes, in order
abbrev pub write_bytes : ℕ → List Write → List ℕ → List ℕ
write_bytes start [] bytes = bytes
write_bytes start (w ∷ ws) bytes = write_bytes start ws (slice_set bytes (w.address - start) w.byte)

-- the address is one of the region's
abbrev pub contains : Region → ℕ → Bool
contains r a = has_address r.start r.bytes.items a

-- n addresses from one on are the region's
abbrev pub ContainsAll : Region → ℕ → ℕ → Type 0
ContainsAll r a n = (i : ℕ) → i < n → contains r (a + i) ≡ true

-- none of n addresses from one on is the region's
abbrev pub ContainsNone : Region → ℕ → ℕ → Type 0
ContainsNone r a n = (i : ℕ) → i < n → contains r (a + i) ≡ false

-- none of the first i regions has the address
abbrev pub NoneBefore : List Region → ℕ → ℕ → Type 0
NoneBefore rs a i = (k : ℕ) (z : Region) → k < i → contains (get_or rs k z) a ≡ false

-- region i is the first that has the address
abbrev pub IsHolder : List Region → ℕ → ℕ → Type 0
IsHolder rs a i = (i < length rs) × ((z : Region) → contains (get_or rs i z) a ≡ true) × NoneBefore rs a i

-- the region of this number is the first that has the address, where a number is given
abbrev pub Holds : Option ℕ → List Region → ℕ → Type 0
Holds None rs a = Unit {0}
Holds (Some i) rs a = IsHolder rs a i

-- the region of this number is the first that has each of n addresses from one on, where a number is given
abbrev pub HoldsAll : Option ℕ → List Region → ℕ → ℕ → Type 0
HoldsAll region rs a n = (i : ℕ) → i < n → Holds region rs (wrapping_add64 a i)

-- the address is one of some region's
unfoldable pub held_in : List Region → ℕ → Bool
held_in [] a = false
held_in (r ∷ rs) a = contains r a || held_in rs a

-- the byte at an address, of the first region that has it
unfoldable pub byte_in : List Region → ℕ → ℕ
byte_in [] a = 0
byte_in (r ∷ rs) a = if contains r a then slice_index r.bytes.items (a - r.start) else byte_in rs a

-- the address is one of some region's, or an older byte's
abbrev pub held_by : List Region → BTreeMap ℕ ℕ → ℕ → Bool
held_by rs older a = held_in rs a || is_some (get nat_cmp older a)

-- the byte at an address, that of a region before an older one; 0 where there is none
abbrev pub byte_by : List Region → BTreeMap ℕ ℕ → ℕ → ℕ
byte_by rs older a = if held_in rs a then byte_in rs a else unwrap_or (get nat_cmp older a) 0

-- an address is accessible and has its byte after regions and older bytes change, as before
pub record IsFolded (rs : List Region) (older : BTreeMap ℕ ℕ) (new_rs : List Region) (new_older : BTreeMap ℕ ℕ) (a : ℕ) : Type 0 where
  pub held : held_by new_rs new_older a ≡ held_by rs older a
  pub byte : byte_by new_rs new_older a ≡ byte_by rs older a

-- the accessible addresses of a memory
abbrev pub is_held : FlatMemory → ℕ → Bool
is_held m a = held_by m.regions.items m.older a

-- the bytes of a memory; 0 where there is none
abbrev pub byte_of : FlatMemory → ℕ → ℕ
byte_of m a = byte_by m.regions.items m.older a

-- n addresses from one on belong to the region that was added last
abbrev pub IsInFirst : FlatMemory → ℕ → ℕ → Type 0
IsInFirst m a n = (0 < length m.regions.items) × ((z : Region) → ContainsAll (get_or m.regions.items 0 z) a n)
