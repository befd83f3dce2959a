-- What stands in places behind each change of the values in places, and what a set of registers has.
use Rattle.std.proofs.Common.{◌≡◌, ℕ, ◌+◌, Bool, true, false, cond, List, [], ◌∷◌, ◌++◌, length, Option, Some, None, Result, Ok, Err, refl, sym, ap, ◌∙◌}
use Rattle.std.specs.Prelude.{◌||◌, not, filter, IfOk}
use Rattle.std.specs.BTreeMap.{BTreeMap, get, is_at}
use Rattle.std.specs.Cmp.{nat_cmp_is}
use Rattle.std.specs.List.{list_any}
use Rattle.std.specs.Ordering.{is_eq, nat_cmp}
use Rattle.std.specs.declared.cmp.Ordering.TheVariants.{Equal}
use Rattle.std.proofs.lemmas.Bool.{false≢true}
use Rattle.s390x_base.specs.Registers.{RealRegister}
use Rattle.s390x_alloc.specs.declared.place_values.PlaceValues.{PlaceValues}
use Rattle.s390x_alloc.specs.declared.place_values.RegisterValue.{RegisterValue}
use Rattle.s390x_alloc.specs.declared.plan.Place.{Place}
use Rattle.s390x_alloc.specs.declared.plan.Place.TheVariants.{Reg as InReg, Slot}
use Rattle.s390x_alloc.specs.Locations.{value_in, value_of}
use Rattle.s390x_alloc.specs.Same.{same_place, same_real}
use Rattle.s390x_alloc.proofs.Locating.{place_turned}
use Rattle.s390x_alloc.proofs.Sameness.{real-same}

-- ---- results

pub on_ok : {T E : Type 0} {P Q : T → Type 0} (r : Result T E) → ((x : T) → P x → Q x) → IfOk r P → IfOk r Q
on_ok (Ok x) f h = f x h
on_ok (Err e) f h = tt

-- ---- values in registers

-- registers that pass a test are cleared
cleared_in : (test : RealRegister → Bool) (xs : List RegisterValue) (q : RealRegister) → value_in (filter (λ (x : RegisterValue). not (test x.preg)) xs) q ≡ cond (test q) None (value_in xs q)
cleared_in test [] q = nothing (test q)
  where
    nothing : (b : Bool) → ◌≡◌ {A = Option ℕ} None (cond b None None)
    nothing true = refl
    nothing false = refl
cleared_in test (x ∷ xs) q =
    pushed (test x.preg)
    ∙ ap (λ o. cond (test x.preg) o (cond (same_real x.preg q) (Some x.value) o)) (cleared_in test xs q)
    ∙ sorted (test x.preg) (same_real x.preg q) (test q) (value_in xs q) (λ e. ap test (real-same x.preg q e))
  where
    rest : List RegisterValue
    rest = filter (λ (y : RegisterValue). not (test y.preg)) xs

    pushed : (b : Bool) → value_in (cond (not b) (x ∷ rest) rest) q ≡ cond b (value_in rest q) (cond (same_real x.preg q) (Some x.value) (value_in rest q))
    pushed true = refl
    pushed false = refl

    sorted : (b s t : Bool) (o : Option ℕ) → (s ≡ true → b ≡ t) → cond b (cond t None o) (cond s (Some x.value) (cond t None o)) ≡ cond t None (cond s (Some x.value) o)
    sorted true true false o e = absurd (false≢true (sym (e refl)))
    sorted true false true o e = refl
    sorted false true true o e = absurd (false≢true (e refl))
    sorted false false true o e = refl
    sorted b s t o e = refl

abbrev or_else : Option ℕ → Option ℕ → Option ℕ
or_else None o = o
or_else (Some v) o = Some v

-- a register is cleared, and then gets a value
put_in : (xs : List RegisterValue) (p : RealRegister) (v : ℕ) (q : RealRegister) →
    value_in (filter (λ (x : RegisterValue). not (same_real x.preg p)) xs ++ record { preg = p; value = v } ∷ []) q ≡ cond (same_real q p) (Some v) (value_in xs q)
put_in xs p v q =
    behind (filter (λ (x : RegisterValue). not (same_real x.preg p)) xs)
    ∙ ap (λ o. or_else o (cond (same_real p q) (Some v) None)) (cleared_in (λ r. same_real r p) xs q)
    ∙ ap (λ b. or_else (cond (same_real q p) None (value_in xs q)) (cond b (Some v) None)) (place_turned (InReg p) (InReg q))
    ∙ either (same_real q p) (value_in xs q)
  where
    chosen : (b : Bool) (w : ℕ) (o last : Option ℕ) → cond b (Some w) (or_else o last) ≡ or_else (cond b (Some w) o) last
    chosen true w o last = refl
    chosen false w o last = refl

    behind : (ys : List RegisterValue) → value_in (ys ++ record { preg = p; value = v } ∷ []) q ≡ or_else (value_in ys q) (cond (same_real p q) (Some v) None)
    behind [] = refl
    behind (y ∷ ys) = ap (λ o. cond (same_real y.preg q) (Some y.value) o) (behind ys) ∙ chosen (same_real y.preg q) y.value (value_in ys q) (cond (same_real p q) (Some v) None)

    either : (b : Bool) (o : Option ℕ) → or_else (cond b None o) (cond b (Some v) None) ≡ cond b (Some v) o
    either true o = refl
    either false None = refl
    either false (Some w) = refl

-- ---- values in places

pub cleared : (values new : PlaceValues) (test : Place → Bool) → new.in_registers.items ≡ filter (λ (x : RegisterValue). not (test (InReg x.preg))) values.in_registers.items →
    ((s : ℕ) → get nat_cmp new.in_slots s ≡ cond (test (Slot s)) None (get nat_cmp values.in_slots s)) → (q : Place) → value_of new q ≡ cond (test q) None (value_of values q)
cleared values new test registers slots (InReg q) = ap (λ l. value_in l q) registers ∙ cleared_in (λ r. test (InReg r)) values.in_registers.items q
cleared values new test registers slots (Slot s) = slots s

pub put : (values new : PlaceValues) (p : RealRegister) (v : ℕ) → new.in_registers.items ≡ filter (λ (x : RegisterValue). not (same_place (InReg x.preg) (InReg p))) values.in_registers.items ++ record { preg = p; value = v } ∷ [] →
    new.in_slots ≡ values.in_slots → (q : Place) → value_of new q ≡ cond (same_place q (InReg p)) (Some v) (value_of values q)
put values new p v registers slots (InReg q) = ap (λ l. value_in l q) registers ∙ put_in values.in_registers.items p v q
put values new p v registers slots (Slot s) = ap (λ (m : BTreeMap ℕ ℕ). get nat_cmp m s) slots

-- ---- sets

-- a set with a number has some number
pub member : (ks : List ℕ) → (length ks ≡ 0 → ⊥) → (n : ℕ) × (list_any (is_at (nat_cmp n)) ks ≡ true)
member [] some = absurd (some refl)
member (k ∷ ks) some = (k, sym (ap (λ o. is_eq o || list_any (is_at (nat_cmp k)) ks) (nat_cmp_is k k Equal refl)))
