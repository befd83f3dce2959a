-- What registers that meet the constraints have of others that do so, register by register; and the causes that blame none.
use Rattle.std.proofs.Common.{◌≡◌, ℕ, ◌+◌, ◌<◌, nat_eq, nat_lt, inl, inr, Bool, true, false, not, ◌&&◌, List}
use Rattle.std.proofs.Common.{[], ◌∷◌, Option, Some, None, refl, sym, ap, subst, ◌∙◌, eq-eqb}
use Rattle.std.proofs.lemmas.Bool.{lt-ltb, eqb-true, and_from}
use Rattle.s390x_base.specs.Registers.{RealRegister, register_count, general}
use Rattle.s390x_base.specs.Regs.{IsReal, is_int, number_of}
use Rattle.s390x_base.specs.declared.error.EmitError.{EmitError}
use Rattle.s390x_base.specs.declared.error.EmitError.TheVariants.{MissingFacility, BadOperator, LabelOutOfRange}
use Rattle.s390x_base.specs.declared.regs.Reg.{Reg}
use Rattle.s390x_base.specs.declared.regs.Reg.TheVariants.{Real, Virtual}
use Rattle.s390x_base.specs.declared.regs.RegClass.{RegClass}
use Rattle.s390x_base.specs.declared.regs.RegClass.TheVariants.{Int, Float}
use Rattle.s390x_inst.specs.Facilities.{facility_of, has_facility}
use Rattle.s390x_inst.specs.declared.inst.Inst.{Inst}
use Rattle.s390x_inst.specs.declared.state.IsaFlags.{IsaFlags}
use Rattle.s390x_operands.specs.declared.constraint.Reported.{Reported}
use Rattle.s390x_operands.specs.Meets.{MeetsEach}
use Rattle.s390x_operands.specs.Requests.{items_of, reported_use, reported_def, reported_reuse}
use Rattle.s390x_assign.specs.Assignments.{register_at, after}
use Rattle.s390x_typed_steps.specs.Causes.{first_emit_cause, unless, facility_cause, numbers_cause}
use Rattle.s390x_typed_steps.specs.Operands.{is_numbered}
use Rattle.s390x_typed_steps.specs.General.{is_general, reuses}
use Rattle.s390x_typed_steps.specs.VectorInstruction.{is_vector, reuses_vector}
use Rattle.s390x_alloc_laws.specs.Allocatable.{IsVirtual, MayAddress, IsOrdinary, Spares, IsNotBlamed}

-- ---- causes that blame no register

pub clear : IsNotBlamed None
clear = ((λ h. absurd (cc)), (λ h. absurd (cc)))

pub operator_clear : IsNotBlamed (Some BadOperator)
operator_clear = ((λ h. absurd (cc)), (λ h. absurd (cc)))

missing_clear : IsNotBlamed (Some MissingFacility)
missing_clear = ((λ h. absurd (cc)), (λ h. absurd (cc)))

pub unless_clear : (holds : Bool) (e : EmitError) → IsNotBlamed (Some e) → IsNotBlamed (unless holds e)
unless_clear true e h = clear
unless_clear false e h = h

pub first_clear : (a b : Option EmitError) → IsNotBlamed a → IsNotBlamed b → IsNotBlamed (first_emit_cause a b)
first_clear None b p q = q
first_clear (Some e) b p q = p

pub facility_clear : (flags : IsaFlags) (i : Inst) → IsNotBlamed (facility_cause flags i)
facility_clear flags i = unless_clear (has_facility flags (facility_of i)) MissingFacility missing_clear

pub numbers_clear : (n more : ℕ) → IsNotBlamed (numbers_cause n more)
numbers_clear n more = unless_clear (nat_lt (n + more) 4294967297) LabelOutOfRange ((λ h. absurd (cc)), (λ h. absurd (cc)))

-- ---- tests

pub and_left : (a b : Bool) → (a && b) ≡ true → a ≡ true
and_left true b h = refl
and_left false b h = h

pub and_right : (a b : Bool) → (a && b) ≡ true → b ≡ true
and_right true b h = h
and_right false b h = absurd (cc)

-- where one test holds, so does another
abbrev pub Passes : Bool → Bool → Type 0
Passes a' a = a' ≡ true → a ≡ true

pub and_passes : (a a' b b' : Bool) → Passes a' a → Passes b' b → Passes (a' && b') (a && b)
and_passes a a' b b' f g h = and_from a b (f (and_left a' b' h)) (g (and_right a' b' h))

-- ---- registers of one class

int_numbers : (k k' : RegClass) (n n' : ℕ) → k ≡ k' → n < register_count k → Passes (is_int k' && nat_lt n' 16) (is_int k && nat_lt n 16)
int_numbers Int k' n n' e lt h = lt-ltb n 16 lt
int_numbers Float k' n n' e lt h = and_left (is_int Float) (nat_lt n' 16) (ap (λ k. is_int k && nat_lt n' 16) e ∙ h)

general_given : (class : RegClass) (q q' : Reg) → IsReal class q → IsOrdinary q → IsReal class q' → Passes (is_general q') (is_general q)
general_given class (Real p) (Real p') is ordinary is' = int_numbers p.class p'.class p.number p'.number (is ∙ sym is') ordinary.0
general_given class (Real p) (Virtual n c) is ordinary is' = absurd (cc)
general_given class (Virtual n c) q' is ordinary is' = absurd (cc)

float_numbers : (k k' : RegClass) (n n' : ℕ) → k ≡ k' → n < register_count k → Passes (not (is_int k') && nat_lt n' 32) (not (is_int k) && nat_lt n 32)
float_numbers Float k' n n' e lt h = lt-ltb n 32 lt
float_numbers Int k' n n' e lt h = and_left (not (is_int Int)) (nat_lt n' 32) (ap (λ k. not (is_int k) && nat_lt n' 32) e ∙ h)

vector_given : (class : RegClass) (q q' : Reg) → IsReal class q → IsOrdinary q → IsReal class q' → Passes (is_vector q') (is_vector q)
vector_given class (Real p) (Real p') is ordinary is' = float_numbers p.class p'.class p.number p'.number (is ∙ sym is') ordinary.0
vector_given class (Real p) (Virtual n c) is ordinary is' = absurd (cc)
vector_given class (Virtual n c) q' is ordinary is' = absurd (cc)

-- a register that may address isn't %r1
numbered_one : (k : RegClass) (n : ℕ) → (is_int k && nat_eq n 1) ≡ true → ◌≡◌ {A = RealRegister} (record { class = k; number = n }) (general 1)
numbered_one Int n h = ap (λ (m : ℕ). general m) (eqb-true n 1 h)
numbered_one Float n h = absurd (cc)

not_one : (q : Reg) → IsOrdinary q → is_numbered 1 q ≡ false
not_one (Real p) o = elim (is_int p.class && nat_eq p.number 1) as (λ b. ((b ≡ true) → ⊥) → b ≡ false) [ true ↦ (λ f. absurd (f refl)) | false ↦ (λ f. refl) ] (λ h. o.2 (numbered_one p.class p.number h))
not_one (Virtual n c) o = refl

kept_real : (p : RealRegister) → MayAddress (Real p) → is_numbered 1 (Real p) ≡ false
kept_real p (inl h) = ap (λ (r : RealRegister). is_int r.class && nat_eq r.number 1) h
kept_real p (inr h) = ap (λ (r : RealRegister). is_int r.class && nat_eq r.number 1) h

pub virtual_addresses : (r : Reg) → IsVirtual r → MayAddress r
virtual_addresses (Real p) v = absurd v
virtual_addresses (Virtual n c) v = tt

-- what is given a register, and what another list gives it
pub record Given (r q q' : Reg) : Type 0 where
  pub passes : Passes (is_general q') (is_general q)
  pub vector : Passes (is_vector q') (is_vector q)
  pub no_scratch : MayAddress r → is_numbered 1 q ≡ false

-- registers for some items that meet all constraints, and others
pub record Gives (all all' s s' : List Reg) (xs : List Reported) : Type 0 where
  pub meet : MeetsEach all xs s
  pub spare : Spares xs s
  pub possible : MeetsEach all' xs s'

-- the next register is given
pub record Next (r : Reg) (all all' s s' : List Reg) (xs : List Reported) : Type 0 where
  pub given : Given r (register_at r s) (register_at r s')
  pub rest : Gives all all' (after r s) (after r s') xs

pub used_given : (r : Reg) (xs : List (Option Reported)) (all all' s s' : List Reg) → Gives all all' s s' (items_of (reported_use r ∷ xs)) → Next r all all' s s' (items_of xs)
used_given (Real p) xs all all' s s' g = record { given = record { passes = λ h. h; vector = λ h. h; no_scratch = kept_real p }; rest = record { meet = g.meet; spare = g.spare; possible = g.possible } }
used_given (Virtual n c) xs all all' [] s' g = absurd g.meet
used_given (Virtual n c) xs all all' (q ∷ s) [] g = absurd g.possible
used_given (Virtual n c) xs all all' (q ∷ s) (q' ∷ s') g =
    record {
      given = record { passes = general_given c q q' g.meet.0 g.spare.0 g.possible.0; vector = vector_given c q q' g.meet.0 g.spare.0 g.possible.0; no_scratch = λ m. not_one q g.spare.0 };
      rest = record { meet = g.meet.1.1; spare = g.spare.1; possible = g.possible.1.1 };
    }

pub defined_given : (r : Reg) (xs : List (Option Reported)) (all all' s s' : List Reg) → Gives all all' s s' (items_of (reported_def r ∷ xs)) → Next r all all' s s' (items_of xs)
defined_given (Real p) xs all all' s s' g = record { given = record { passes = λ h. h; vector = λ h. h; no_scratch = kept_real p }; rest = record { meet = g.meet; spare = g.spare; possible = g.possible } }
defined_given (Virtual n c) xs all all' [] s' g = absurd g.meet
defined_given (Virtual n c) xs all all' (q ∷ s) [] g = absurd g.possible
defined_given (Virtual n c) xs all all' (q ∷ s) (q' ∷ s') g =
    record {
      given = record { passes = general_given c q q' g.meet.0 g.spare.0 g.possible.0; vector = vector_given c q q' g.meet.0 g.spare.0 g.possible.0; no_scratch = λ m. not_one q g.spare.0 };
      rest = record { meet = g.meet.1.1; spare = g.spare.1; possible = g.possible.1.1 };
    }

-- an output that is an input, and that input
pub record Reused (rd ri : Reg) (s s' : List Reg) (xs : List Reported) : Type 0 where
  pub no_scratch : is_numbered 1 (register_at ri (after rd s)) ≡ false
  pub passes : Passes (reuses (register_at rd s') (register_at ri (after rd s'))) (reuses (register_at rd s) (register_at ri (after rd s)))
  pub vector : Passes (reuses_vector (register_at rd s') (register_at ri (after rd s'))) (reuses_vector (register_at rd s) (register_at ri (after rd s)))
  pub rest : Gives s s' (after ri (after rd s)) (after ri (after rd s')) xs

some_injective : (a b : Reg) → ◌≡◌ {A = Option Reg} (Some a) (Some b) → a ≡ b
some_injective a b h = cc

-- two registers pass a test and are the same
abbrev pub pass_alike : (Reg → Bool) → Reg → Reg → Bool
pass_alike t q p = t q && t p && nat_eq (number_of q) (number_of p)

reuses_itself : (t : Reg → Bool) (q p q' p' : Reg) → p ≡ q → Passes (t q') (t q) → Passes (pass_alike t q' p') (pass_alike t q p)
reuses_itself t q p q' p' same f h =
    let g : t q ≡ true = f (and_left (t q') (t p') (and_left (t q' && t p') (nat_eq (number_of q') (number_of p')) h)) in
    subst (λ z. pass_alike t q z ≡ true) (sym same) (and_from (t q && t q) (nat_eq (number_of q) (number_of q)) (and_from (t q) (t q) g g) (eq-eqb (number_of q) (number_of q) refl))

pub reused_given : (rd ri : Reg) (xs : List (Option Reported)) (s s' : List Reg) → IsVirtual rd → IsVirtual ri → Gives s s' s s' (items_of (reported_reuse rd ∷ reported_use ri ∷ xs)) → Reused rd ri s s' (items_of xs)
reused_given (Real p) ri xs s s' v w g = absurd v
reused_given (Virtual n c) (Real p) xs s s' v w g = absurd w
reused_given (Virtual n c) (Virtual m d) xs [] s' v w g = absurd g.meet
reused_given (Virtual n c) (Virtual m d) xs (q ∷ []) s' v w g = absurd g.meet.1.1
reused_given (Virtual n c) (Virtual m d) xs (q ∷ p ∷ s) [] v w g = absurd g.possible
reused_given (Virtual n c) (Virtual m d) xs (q ∷ p ∷ s) (q' ∷ []) v w g = absurd g.possible.1.1
reused_given (Virtual n c) (Virtual m d) xs (q ∷ p ∷ s) (q' ∷ p' ∷ s') v w g =
    record {
      no_scratch = not_one p g.spare.1.0;
      passes = reuses_itself is_general q p q' p' (some_injective p q g.meet.1.0) (general_given c q q' g.meet.0 g.spare.0 g.possible.0);
      vector = reuses_itself is_vector q p q' p' (some_injective p q g.meet.1.0) (vector_given c q q' g.meet.0 g.spare.0 g.possible.0);
      rest = record { meet = g.meet.1.1.1.1; spare = g.spare.1.1; possible = g.possible.1.1.1.1 };
    }

-- how the register of a request is given
abbrev pub IsGiven : (Reg → Option Reported) → Type 0
IsGiven f = (r : Reg) (xs : List (Option Reported)) (all all' s s' : List Reg) → Gives all all' s s' (items_of (f r ∷ xs)) → Next r all all' s s' (items_of xs)

-- a test that passes wherever a register is given
abbrev pub IsKept : (Reg → Bool) → Type 0
IsKept t = (r q q' : Reg) → Given r q q' → Passes (t q') (t q)

pub int_kept : IsKept is_general
int_kept r q q' g = g.passes

pub float_kept : IsKept is_vector
float_kept r q q' g = g.vector
