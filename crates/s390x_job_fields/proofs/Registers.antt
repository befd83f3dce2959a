-- The members of a set, in order.
use Rattle.std.proofs.Common.{◌≡◌, ℕ, zero, suc, ◌<◌, ◌≤◌, Bool, true, false, List, [], ◌∷◌, ◌++◌, refl, sym, ap, ◌∙◌, inl, inr, arith}
use Rattle.std.specs.Prelude.{◌==◌, ◌||◌, ◌&&◌, if◌then◌else◌}
use Rattle.std.proofs.lemmas.Bool.{eqb-true}
use Rattle.std.proofs.lemmas.Bool.Decides.{nat_tests}
use Rattle.s390x_base.specs.Registers.{RealRegister, general, vector, IsRegister}
use Rattle.s390x_job_fields.specs.Lists.{AllItems}
use Rattle.s390x_job_fields.specs.Sets.{members_below, members_of, same_register, is_in}
use Rattle.s390x_job_fields.proofs.Members.{either, or-false}

all_append : {A : Type 0} (P : A → Type 0) (a b : List A) → AllItems P a → AllItems P b → AllItems P (a ++ b)
all_append P [] b h k = k
all_append P (x ∷ a) b h k = (h.0, all_append P a b h.1 k)

all_if : (b : Bool) (r : RealRegister) → IsRegister r → AllItems IsRegister (if b then r ∷ [] else [])
all_if true r h = (h, tt)
all_if false r h = tt

all_general : (has : RealRegister → Bool) (n : ℕ) → n ≤ 16 → AllItems IsRegister (members_below general has n)
all_general has zero h = tt
all_general has (suc n) h =
    all_append IsRegister (members_below general has n) _ (all_general has n (omega arith)) (all_if (has (general n)) (general n) (omega arith))

all_vector : (has : RealRegister → Bool) (n : ℕ) → n ≤ 32 → AllItems IsRegister (members_below vector has n)
all_vector has zero h = tt
all_vector has (suc n) h =
    all_append IsRegister (members_below vector has n) _ (all_vector has n (omega arith)) (all_if (has (vector n)) (vector n) (omega arith))

pub all_registers : (has : RealRegister → Bool) → AllItems IsRegister (members_of has)
unfolding members_of
all_registers has =
    all_append IsRegister (members_below general has 16) (members_below vector has 32) (all_general has 16 (omega arith)) (all_vector has 32 (omega arith))

-- two tests that agree have the same members
below_same : (of : ℕ → RealRegister) (p q : RealRegister → Bool) (n : ℕ) → ((k : ℕ) → k < n → p (of k) ≡ q (of k)) → members_below of p n ≡ members_below of q n
below_same of p q zero h = refl
below_same of p q (suc n) h =
    let e = h n (omega arith) in
    ap (λ b. members_below of p n ++ (if b then of n ∷ [] else [])) e ∙ ap (λ l. l ++ (if q (of n) then of n ∷ [] else [])) (below_same of p q n (λ k l. h k (omega arith)))

pub members-same : (p q : RealRegister → Bool) → ((k : ℕ) → k < 16 → p (general k) ≡ q (general k)) → ((k : ℕ) → k < 32 → p (vector k) ≡ q (vector k)) → members_of p ≡ members_of q
unfolding members_of
members-same p q g v =
    ap (λ l. l ++ members_below vector p 32) (below_same general p q 16 g) ∙ ap (λ l. members_below general q 16 ++ l) (below_same vector p q 32 v)

-- which registers are among the members
or_assoc : (a b c : Bool) → ((a || b) || c) ≡ (a || (b || c))
or_assoc true b c = refl
or_assoc false b c = refl

less : (k n : ℕ) → k < suc n → (k == n) ≡ false → k < n
less k n h e = grind (arith, nat_tests)

in_append : (a b : List RealRegister) (r : RealRegister) → is_in (a ++ b) r ≡ (is_in a r || is_in b r)
in_append [] b r = refl
in_append (x ∷ a) b r = ap (λ t. same_register r x || t) (in_append a b r) ∙ sym (or_assoc (same_register r x) (is_in a r) (is_in b r))

picked : (b : Bool) (q r : RealRegister) → is_in (if b then q ∷ [] else []) r ≡ (b && same_register r q)
picked true q r = or-false (same_register r q)
picked false q r = refl

and_false : (b : Bool) → (b && false) ≡ false
and_false true = refl
and_false false = refl

and_true : (b : Bool) → (b && true) ≡ b
and_true true = refl
and_true false = refl

apart : (k n : ℕ) → (k ≡ n → ⊥) → (k == n) ≡ false
apart k n h = elim (either (k == n)) [ inl e ↦ absurd (h (eqb-true k n e)) | inr e ↦ e ]

module _ (of : ℕ → RealRegister) (law : (k j : ℕ) → same_register (of k) (of j) ≡ (k == j)) (has : RealRegister → Bool) where
  step : (n : ℕ) (r : RealRegister) → is_in (members_below of has (suc n)) r ≡ (is_in (members_below of has n) r || (has (of n) && same_register r (of n)))
  step n r = in_append (members_below of has n) (if has (of n) then of n ∷ [] else []) r ∙ ap (λ t. is_in (members_below of has n) r || t) (picked (has (of n)) (of n) r)

  beyond : (n k : ℕ) → n ≤ k → is_in (members_below of has n) (of k) ≡ false
  beyond zero k h = refl
  beyond (suc n) k h =
      let e : (k == n) ≡ false = apart k n (λ e. omega arith) in
      step n (of k) ∙ rw (beyond n k (omega arith), law k n, e) (and_false (has (of n)))

  within : (n k : ℕ) → k < n → is_in (members_below of has n) (of k) ≡ has (of k)
  within zero k h = absurd (omega arith)
  within (suc n) k h =
      elim (either (k == n)) [
        | inl e ↦
            let f : k ≡ n = eqb-true k n e in
            step n (of k) ∙ rw (beyond n k (omega arith), law k n, e) (and_true (has (of n)) ∙ ap (λ j. has (of j)) (sym f))
        | inr e ↦
            step n (of k) ∙ rw (law k n, e, and_false) (or-false (is_in (members_below of has n) (of k)) ∙ within n k (less k n h e))
      ]

  other : (n : ℕ) (r : RealRegister) → ((j : ℕ) → same_register r (of j) ≡ false) → is_in (members_below of has n) r ≡ false
  other zero r h = refl
  other (suc n) r h = step n r ∙ rw (other n r h, h n) (and_false (has (of n)))

pub general-in : (has : RealRegister → Bool) (k : ℕ) → k < 16 → is_in (members_of has) (general k) ≡ has (general k)
unfolding members_of
general-in has k h =
    in_append (members_below general has 16) (members_below vector has 32) (general k)
    ∙ rw (within general (λ a b. refl) has 16 k h, other vector (λ a b. refl) has 32 (general k) (λ j. refl)) (or-false (has (general k)))

pub vector-in : (has : RealRegister → Bool) (k : ℕ) → k < 32 → is_in (members_of has) (vector k) ≡ has (vector k)
unfolding members_of
vector-in has k h =
    in_append (members_below general has 16) (members_below vector has 32) (vector k)
    ∙ rw (other general (λ a b. refl) has 16 (vector k) (λ j. refl)) (within vector (λ a b. refl) has 32 k h)

-- the members of the members are the members
pub members-again : (has : RealRegister → Bool) → members_of has ≡ members_of (is_in (members_of has))
members-again has =
    members-same has (is_in (members_of has)) (λ k h. sym (general-in has k h)) (λ k h. sym (vector-in has k h))
