-- Sets of virtual registers, and in which of them each register may be.
use Rattle.std.specs.Prelude.{◌≡◌, ℕ, Bool, true, false, ◌&&◌, Option, Some, None, nat_eq}
use Rattle.std.specs.BTreeMap.{get}
use Rattle.std.specs.BTreeSet.{contains}
use Rattle.std.specs.List.{list_any}
use Rattle.std.specs.Ordering.{nat_cmp}
use Rattle.std.specs.Global.{Vec}
use Rattle.s390x_base.specs.declared.regs.RegClass.{RegClass}
use Rattle.s390x_base.specs.declared.regs.RegClass.TheVariants.{Int, Float}
use Rattle.s390x_alloc.specs.declared.register_homes.RegisterHomes.{RegisterHomes}
use Rattle.s390x_alloc.specs.declared.register_set.RegisterSet.{RegisterSet}
use Rattle.s390x_alloc.specs.Same.{same_class}

-- virtual registers, by their numbers and classes
abbrev pub same_virtual : (n : ℕ) → RegClass → (m : ℕ) → RegClass → Bool
same_virtual n c m d = nat_eq n m && same_class c d

-- the virtual register with this number and class is in the set
abbrev pub has_register : RegisterSet → ℕ → RegClass → Bool
has_register s n Int = contains nat_cmp s.integers n
has_register s n Float = contains nat_cmp s.floats n

-- a register of another class is in the set
pub record HasOther (c : RegClass) (s : RegisterSet) : Type 0 where
  pub number : ℕ
  pub class : RegClass
  pub other : same_class class c ≡ false
  pub has : has_register s number class ≡ true

-- no register of another class is in the set
abbrev pub HasNoOther : RegClass → RegisterSet → Type 0
HasNoOther c s = (n : ℕ) (d : RegClass) → same_class d c ≡ false → has_register s n d ≡ false

-- the number is one of these
abbrev pub is_in : Option (Vec ℕ) → ℕ → Bool
is_in None h = false
is_in (Some v) h = list_any (nat_eq h) v.items

abbrev pub homes_of : RegisterHomes → ℕ → RegClass → Option (Vec ℕ)
homes_of homes n Int = get nat_cmp homes.integers n
homes_of homes n Float = get nat_cmp homes.floats n

-- the register may be in the set with this number
abbrev pub is_home : RegisterHomes → ℕ → RegClass → ℕ → Bool
is_home homes n c h = is_in (homes_of homes n c) h
