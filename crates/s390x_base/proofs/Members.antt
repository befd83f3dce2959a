-- A set whose arrays hold no member has none.
use Rattle.std.proofs.Common.{◌≡◌, ℕ, zero, suc, Bool, true, false, List, [], ◌∷◌, get_or, refl}
use Rattle.s390x_base.specs.Registers.{RealRegister}
use Rattle.s390x_base.specs.Sets.{has, members}
use Rattle.s390x_base.specs.declared.sets.PRegSet.{PRegSet}
use Rattle.s390x_base.specs.declared.regs.RegClass.{RegClass}
use Rattle.s390x_base.specs.declared.regs.RegClass.TheVariants.{Int, Float}

abbrev pub AllFalse : List Bool → Type 0
AllFalse [] = Unit {0}
AllFalse (true ∷ xs) = ⊥
AllFalse (false ∷ xs) = AllFalse xs

-- the set of the empty arrays
abbrev pub nothing : PRegSet
nothing = record {
  general = false ∷ false ∷ false ∷ false ∷ false ∷ false ∷ false ∷ false ∷ false ∷ false ∷ false ∷ false ∷ false ∷ false ∷ false ∷ false ∷ [];
  vector = false ∷ false ∷ false ∷ false ∷ false ∷ false ∷ false ∷ false ∷ false ∷ false ∷ false ∷ false ∷ false ∷ false ∷ false ∷ false ∷ false ∷ false ∷ false ∷ false ∷ false ∷ false ∷ false ∷ false ∷ false ∷ false ∷ false ∷ false ∷ false ∷ false ∷ false ∷ false ∷ [];
}

none_of : (xs : List Bool) (n : ℕ) → AllFalse xs → get_or xs n false ≡ false
none_of [] n h = refl
none_of (true ∷ xs) n h = absurd h
none_of (false ∷ xs) zero h = refl
none_of (false ∷ xs) (suc n) h = none_of xs n h

none_in : (s : PRegSet) → AllFalse s.general → AllFalse s.vector → (k : RegClass) (n : ℕ) → members s k n ≡ false
none_in s g v Int n = none_of s.general n g
none_in s g v Float n = none_of s.vector n v

pub has_none : (s : PRegSet) → AllFalse s.general → AllFalse s.vector → (r : RealRegister) → has s r ≡ false
has_none s g v r = none_in s g v r.class r.number
