-- Which places hold which virtual registers, by the values that stand in places: places between which a move copied have the same value.
use Rattle.std.specs.Prelude.{◌≡◌, ℕ, ◌<◌, Bool, true, false, cond, List, [], ◌∷◌, length, slice_get, Option, Some, None, Result, Ok, Err}
use Rattle.std.specs.BTreeMap.{get}
use Rattle.std.specs.Ordering.{nat_cmp}
use Rattle.s390x_base.specs.Registers.{RealRegister}
use Rattle.s390x_base.specs.declared.regs.Reg.TheVariants.{Virtual}
use Rattle.s390x_base.specs.declared.regs.RegClass.{RegClass}
use Rattle.s390x_alloc.specs.declared.location_map.LocationMap.{LocationMap}
use Rattle.s390x_alloc.specs.declared.place_values.PlaceValues.{PlaceValues}
use Rattle.s390x_alloc.specs.declared.place_values.RegisterValue.{RegisterValue}
use Rattle.s390x_alloc.specs.declared.plan.EntryPair.{EntryPair}
use Rattle.s390x_alloc.specs.declared.plan.Place.{Place}
use Rattle.s390x_alloc.specs.declared.plan.Place.TheVariants.{Reg as InReg, Slot}
use Rattle.s390x_alloc.specs.declared.register_set.RegisterSet.{RegisterSet}
use Rattle.s390x_alloc.specs.Contents.{holds}
use Rattle.s390x_alloc.specs.Registers.{has_register, is_home}
use Rattle.s390x_alloc.specs.Same.{same_place, same_real}

-- ---- values in places

-- the value that stands in a register
abbrev pub value_in : List RegisterValue → RealRegister → Option ℕ
value_in [] p = None
value_in (x ∷ xs) p = cond (same_real x.preg p) (Some x.value) (value_in xs p)

-- the value that stands in a place
abbrev pub value_of : PlaceValues → Place → Option ℕ
value_of values (InReg p) = value_in values.in_registers.items p
value_of values (Slot s) = get nat_cmp values.in_slots s

-- ---- the registers of a value

abbrev pub in_set : Option RegisterSet → ℕ → RegClass → Bool
in_set None n c = false
in_set (Some s) n c = has_register s n c

-- the value with this number is one of the virtual register
abbrev pub is_value_of : List RegisterSet → (value : ℕ) → ℕ → RegClass → Bool
is_value_of sets value n c = in_set (slice_get sets value) n c

abbrev pub at_value : List RegisterSet → Option ℕ → ℕ → RegClass → Bool
at_value sets None n c = false
at_value sets (Some value) n c = is_value_of sets value n c

-- ---- the map

-- the place holds the virtual register
abbrev pub is_located : LocationMap → Place → ℕ → RegClass → Bool
is_located m p n c = at_value m.sets.items (value_of m.values p) n c

-- a virtual register in a place
abbrev pub pair_of : Place → ℕ → RegClass → EntryPair
pair_of p n c = record { place = p; vreg = Virtual n c }

-- the map locates the virtual registers of these pairs, and no others; each one is in none but its homes, and each value has a set
pub record IsMapOf (m : LocationMap) (held : List EntryPair) : Type 0 where
  pub same : (p : Place) (n : ℕ) (c : RegClass) → is_located m p n c ≡ holds held (pair_of p n c)
  pub homes : (value n : ℕ) (c : RegClass) → is_value_of m.sets.items value n c ≡ true → is_home m.homes n c value ≡ true
  pub below : (p : Place) (value : ℕ) → value_of m.values p ≡ Some value → value < length m.sets.items

-- no two places have the same value
abbrev pub IsApart : LocationMap → Type 0
IsApart m = (p q : Place) (value : ℕ) → value_of m.values p ≡ Some value → value_of m.values q ≡ Some value → same_place p q ≡ true

-- the value stands in this place alone
pub record IsAlone (m : LocationMap) (p : Place) (value : ℕ) : Type 0 where
  pub here : value_of m.values p ≡ Some value
  pub alone : (q : Place) → value_of m.values q ≡ Some value → same_place q p ≡ true

-- the map locates what comes out, where nothing is refused
abbrev pub LeadsTo : {E : Type 0} → Result (List EntryPair) E → LocationMap → Type 0
LeadsTo (Ok held) m = IsMapOf m held
LeadsTo (Err e) m = ⊥

-- each map locates what is in its list
abbrev pub AreMapsOf : List LocationMap → List (List EntryPair) → Type 0
AreMapsOf [] [] = Unit {0}
AreMapsOf [] (held ∷ lists) = ⊥
AreMapsOf (m ∷ ms) [] = ⊥
AreMapsOf (m ∷ ms) (held ∷ lists) = IsMapOf m held × AreMapsOf ms lists

abbrev pub AllLeadTo : {E : Type 0} → Result (List (List EntryPair)) E → List LocationMap → Type 0
AllLeadTo (Ok lists) ms = AreMapsOf ms lists
AllLeadTo (Err e) ms = ⊥
