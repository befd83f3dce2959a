-- What is told to be the same is equal, and each thing is the same as itself.
use Rattle.std.proofs.Common.{◌≡◌, ℕ, true, refl, ap, ◌∙◌, arith, Bool, false, cond, Option, Some, None}
use Rattle.std.specs.Prelude.{nat_eq}
use Rattle.std.proofs.lemmas.Bool.{and_parts, and_from, eqb-true}
use Rattle.std.proofs.lemmas.Bool.Decides.{nat_tests}
use Rattle.s390x_base.specs.Registers.{RealRegister}
use Rattle.s390x_base.specs.declared.regs.Reg.{Reg}
use Rattle.s390x_base.specs.declared.regs.Reg.TheVariants.{Real, Virtual}
use Rattle.s390x_base.specs.declared.regs.RegClass.{RegClass}
use Rattle.s390x_base.specs.declared.regs.RegClass.TheVariants.{Int, Float}
use Rattle.s390x_alloc.specs.declared.plan.EntryPair.{EntryPair}
use Rattle.s390x_alloc.specs.declared.plan.Place.{Place}
use Rattle.s390x_alloc.specs.declared.plan.Place.TheVariants.{Reg as InReg, Slot}
use Rattle.s390x_alloc.specs.Same.{same_class, same_pair, same_place, same_real, same_register}

pub class-same : (c d : RegClass) → same_class c d ≡ true → c ≡ d
class-same Int Int h = refl
class-same Int Float h = absurd cc
class-same Float Int h = absurd cc
class-same Float Float h = refl

class-self : (c : RegClass) → same_class c c ≡ true
class-self Int = refl
class-self Float = refl

pub number-self : (n : ℕ) → nat_eq n n ≡ true
number-self n = grind (arith, nat_tests)

made : RegClass → ℕ → RealRegister
made c n = record { class = c; number = n }

pub real-same : (p q : RealRegister) → same_real p q ≡ true → p ≡ q
unfolding made
real-same p q h =
    let a = and_parts (same_class p.class q.class) (nat_eq p.number q.number) h in
    ap (λ c. made c p.number) (class-same p.class q.class a.0) ∙ ap (made q.class) (eqb-true p.number q.number a.1)

real-self : (p : RealRegister) → same_real p p ≡ true
real-self p = and_from _ _ (class-self p.class) (number-self p.number)

pub register-same : (r q : Reg) → same_register r q ≡ true → r ≡ q
register-same (Real p) (Real q) h = ap Real (real-same p q h)
register-same (Real p) (Virtual n c) h = absurd cc
register-same (Virtual n c) (Real q) h = absurd cc
register-same (Virtual n c) (Virtual m d) h =
    let a = and_parts (nat_eq n m) (same_class c d) h in
    ap (λ k. Virtual k c) (eqb-true n m a.0) ∙ ap (Virtual m) (class-same c d a.1)

pub register-self : (r : Reg) → same_register r r ≡ true
register-self (Real p) = real-self p
register-self (Virtual n c) = and_from _ _ (number-self n) (class-self c)

pub place-same : (x y : Place) → same_place x y ≡ true → x ≡ y
place-same (InReg p) (InReg q) h = ap InReg (real-same p q h)
place-same (InReg p) (Slot t) h = absurd cc
place-same (Slot s) (InReg q) h = absurd cc
place-same (Slot s) (Slot t) h = ap Slot (eqb-true s t h)

pub place-self : (x : Place) → same_place x x ≡ true
place-self (InReg p) = real-self p
place-self (Slot s) = number-self s

paired : Place → Reg → EntryPair
paired p r = record { place = p; vreg = r }

pub pair-same : (x y : EntryPair) → same_pair x y ≡ true → x ≡ y
unfolding paired
pair-same x y h =
    let a = and_parts (same_place x.place y.place) (same_register x.vreg y.vreg) h in
    ap (λ p. paired p x.vreg) (place-same x.place y.place a.0) ∙ ap (paired y.place) (register-same x.vreg y.vreg a.1)

-- where no item of a list is the first that fails, this one passes and so do the later ones
pub passed_first : (b : Bool) (number : ℕ) (later : Option ℕ) → cond b later (Some number) ≡ None → (b ≡ true) × (later ≡ None)
passed_first true number later h = (refl, h)
passed_first false number later h = absurd cc
