-- Whether a run goes on behind an ending, and where.
use Rattle.std.proofs.Common.{◌≡◌, ℕ, zero, suc, ◌⊎◌, inl, inr, List, [], ◌∷◌, Bool, true, false, ◌==◌, Some, refl, sym, ap, ◌∙◌, subst, eqb-true, eq-eqb, true≢false, slice_get}
use Rattle.s390x_typed_steps.specs.StepBody.{Calling}
use Rattle.s390x_typed_steps.specs.Steps.{Step, CallingStep}
use Rattle.s390x_machine.specs.Layout.{Layout}
use Rattle.s390x_machine.specs.Match.{return_address}
use Rattle.s390x_machine.specs.Typed.{Ending, Returned, Called, TailCalled, Trapped, DebugStopped}
use Rattle.s390x_schedule.specs.Joint.{IsStart, IsReturnPlace, GoesOn}

-- an item of a list of which this holds, where it can be told of each, or there is none
found_or_none : {A : Type 0} (P : ℕ → A → Type 0) → ((i : ℕ) (x : A) → P i x ⊎ (P i x → ⊥)) → (xs : List A) →
    ((i : ℕ) × (x : A) × (slice_get xs i ≡ Some x) × P i x) ⊎ ((i : ℕ) (x : A) → slice_get xs i ≡ Some x → P i x → ⊥)
found_or_none P each [] = inr (λ i x e p. absurd (cc))
found_or_none {A = A} P each (x ∷ xs) = first (each 0 x) (found_or_none (λ i y. P (suc i) y) (λ i y. each (suc i) y) xs)
  where
    first : P 0 x ⊎ (P 0 x → ⊥) → ((i : ℕ) × (y : A) × (slice_get xs i ≡ Some y) × P (suc i) y) ⊎ ((i : ℕ) (y : A) → slice_get xs i ≡ Some y → P (suc i) y → ⊥) →
        ((i : ℕ) × (y : A) × (slice_get (x ∷ xs) i ≡ Some y) × P i y) ⊎ ((i : ℕ) (y : A) → slice_get (x ∷ xs) i ≡ Some y → P i y → ⊥)
    first (inl here) others = inl (0, x, refl, here)
    first (inr not_here) (inl later) = inl (suc later.0, later.1, later.2, later.3)
    first (inr not_here) (inr none) = inr neither
      where
        neither : (i : ℕ) (y : A) → slice_get (x ∷ xs) i ≡ Some y → P i y → ⊥
        neither zero y e p = let same : x ≡ y = cc in not_here (subst (λ z. P 0 z) (sym same) p)
        neither (suc i) y e p = none i y e p

equal_or_not : (a b : ℕ) → (a ≡ b) ⊎ (a ≡ b → ⊥)
equal_or_not a b = told (a == b) refl
  where
    told : (t : Bool) → (a == b) ≡ t → (a ≡ b) ⊎ (a ≡ b → ⊥)
    told true e = inl (eqb-true a b e)
    told false e = inr (λ same. true≢false (sym (eq-eqb a b same) ∙ e))

-- step number `call` is a call with this return place
abbrev ReturnsBehind : Layout → (address call : ℕ) → Step → Type 0
ReturnsBehind L a call s = (c : Calling) × (s ≡ CallingStep c) × (a ≡ return_address L call c)

behind_or_not : (L : Layout) (a call : ℕ) (s : Step) → ReturnsBehind L a call s ⊎ (ReturnsBehind L a call s → ⊥)
behind_or_not L a call (CallingStep c) = told (equal_or_not a (return_address L call c))
  where
    told : (a ≡ return_address L call c) ⊎ (a ≡ return_address L call c → ⊥) → ReturnsBehind L a call (CallingStep c) ⊎ (ReturnsBehind L a call (CallingStep c) → ⊥)
    told (inl same) = inl (c, refl, same)
    told (inr other) = inr (λ r. let e : c ≡ r.0 = cc (r.1) in other (r.2 ∙ sym (ap (λ d. return_address L call d) e)))
behind_or_not L a call s = inr (λ r. let e = r.1 in absurd (cc))

start_or_none : (members : List Layout) (a : ℕ) → ((m : ℕ) × IsStart members a m) ⊎ ((m : ℕ) → IsStart members a m → ⊥)
start_or_none members a = told (found_or_none (λ m L. a ≡ L.image.base) (λ m L. equal_or_not a L.image.base) members)
  where
    told : ((m : ℕ) × (L : Layout) × (slice_get members m ≡ Some L) × (a ≡ L.image.base)) ⊎ ((m : ℕ) (L : Layout) → slice_get members m ≡ Some L → a ≡ L.image.base → ⊥) →
        ((m : ℕ) × IsStart members a m) ⊎ ((m : ℕ) → IsStart members a m → ⊥)
    told (inl x) = inl (x.0, record { layout = x.1; listed = x.2; is = x.3 })
    told (inr none) = inr (λ m s. none m s.layout s.listed s.is)

-- a call of this member has this return place
abbrev HasReturn : ℕ → Layout → Type 0
HasReturn a L = (call : ℕ) × (s : Step) × (slice_get L.steps call ≡ Some s) × ReturnsBehind L a call s

place_or_none : (members : List Layout) (a : ℕ) → ((m call : ℕ) × IsReturnPlace members a m call) ⊎ ((m call : ℕ) → IsReturnPlace members a m call → ⊥)
place_or_none members a = told (found_or_none (λ m L. HasReturn a L) (λ m L. within L (found_or_none (ReturnsBehind L a) (behind_or_not L a) L.steps)) members)
  where
    within : (L : Layout) → HasReturn a L ⊎ ((call : ℕ) (s : Step) → slice_get L.steps call ≡ Some s → ReturnsBehind L a call s → ⊥) → HasReturn a L ⊎ (HasReturn a L → ⊥)
    within L (inl x) = inl x
    within L (inr none) = inr (λ x. none x.0 x.1 x.2 x.3)

    told : ((m : ℕ) × (L : Layout) × (slice_get members m ≡ Some L) × HasReturn a L) ⊎ ((m : ℕ) (L : Layout) → slice_get members m ≡ Some L → HasReturn a L → ⊥) →
        ((m call : ℕ) × IsReturnPlace members a m call) ⊎ ((m call : ℕ) → IsReturnPlace members a m call → ⊥)
    told (inl x) = let r = x.3 in inl (x.0, r.0, record { layout = x.1; listed = x.2; calling = r.3.0; calls = r.2 ∙ ap Some r.3.1; is = r.3.2 })
    told (inr none) = inr (λ m call p. none m p.layout p.listed (call, CallingStep p.calling, p.calls, (p.calling, refl, p.is)))

-- where a run goes on behind an ending, or that it goes on nowhere
pub goes_on_or_ends : (members : List Layout) (e : Ending) → ((m k : ℕ) × GoesOn members e m k) ⊎ ((m k : ℕ) → GoesOn members e m k → ⊥)
goes_on_or_ends members (Called a) = told (start_or_none members a)
  where
    told : ((m : ℕ) × IsStart members a m) ⊎ ((m : ℕ) → IsStart members a m → ⊥) → ((m k : ℕ) × GoesOn members (Called a) m k) ⊎ ((m k : ℕ) → GoesOn members (Called a) m k → ⊥)
    told (inl x) = inl (x.0, 0, (x.1, refl))
    told (inr none) = inr (λ m k g. none m g.0)
goes_on_or_ends members (TailCalled a) = told (start_or_none members a)
  where
    told : ((m : ℕ) × IsStart members a m) ⊎ ((m : ℕ) → IsStart members a m → ⊥) → ((m k : ℕ) × GoesOn members (TailCalled a) m k) ⊎ ((m k : ℕ) → GoesOn members (TailCalled a) m k → ⊥)
    told (inl x) = inl (x.0, 0, (x.1, refl))
    told (inr none) = inr (λ m k g. none m g.0)
goes_on_or_ends members (Returned a) = told (place_or_none members a)
  where
    told : ((m call : ℕ) × IsReturnPlace members a m call) ⊎ ((m call : ℕ) → IsReturnPlace members a m call → ⊥) → ((m k : ℕ) × GoesOn members (Returned a) m k) ⊎ ((m k : ℕ) → GoesOn members (Returned a) m k → ⊥)
    told (inl x) = inl (x.0, suc x.1, (x.1, x.2, refl))
    told (inr none) = inr (λ m k g. none m g.0 g.1)
goes_on_or_ends members (Trapped n) = inr (λ m k g. g)
goes_on_or_ends members DebugStopped = inr (λ m k g. g)
