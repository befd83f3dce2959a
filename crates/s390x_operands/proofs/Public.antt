-- What the report of an instruction says to its caller.
use Rattle.std.proofs.Common.{◌≡◌, Bool, true, false, ◌||◌, List, ◌++◌, Option, Some, None, Result, Ok, Err, OnOk, OnErr, inl, inr, refl, subst}
use Rattle.s390x_inst.specs.declared.inst.Inst.{Inst}
use Rattle.s390x_operands.specs.declared.constraint.OperandError.{OperandError}
use Rattle.s390x_operands.specs.declared.constraint.Reported.{Reported}
use Rattle.s390x_operands.specs.Visits.{IsVisitAnswer}
use Rattle.s390x_operands.specs.Requests.{items_of, cause_of, AppendsPrefix, Reports}
use Rattle.s390x_operands.specs.Operands.{is_loop, requests, operands_cause}

pub told : (a d₀ d₁ : Bool) (xs : List (Option Reported)) (l m : List Reported) (r : Result (Unit {0}) OperandError) → Reports a xs l m d₀ d₁ r → OnOk r (m ≡ l ++ items_of xs)
told a d₀ d₁ xs l m (Ok u) p = p.appended
told a d₀ d₁ xs l m (Err e) p = tt

pub prefix : (a d₀ d₁ : Bool) (xs : List (Option Reported)) (l m : List Reported) (r : Result (Unit {0}) OperandError) → Reports a xs l m d₀ d₁ r → OnErr r (AppendsPrefix l m (items_of xs))
prefix a d₀ d₁ xs l m (Ok u) p = tt
prefix a d₀ d₁ xs l m (Err e) p = p.extended

pub kept : (a d₀ d₁ : Bool) (xs : List (Option Reported)) (l m : List Reported) (r : Result (Unit {0}) OperandError) → Reports a xs l m d₀ d₁ r → d₁ ≡ d₀
kept a d₀ d₁ xs l m (Ok u) p = p.kept
kept a d₀ d₁ xs l m (Err e) p = p.kept

or-false : (b : Bool) → (b || false) ≡ b
or-false true = refl
or-false false = refl

pub cause : (i : Inst) (d₀ d₁ : Bool) (l m : List Reported) (r : Result (Unit {0}) OperandError) → Reports (is_loop i || false) (requests i) l m d₀ d₁ r → IsVisitAnswer (operands_cause d₀ i) r
cause i d₀ d₁ l m (Ok u) p = subst (λ b. cause_of (b || d₀) (requests i) ≡ None) (or-false (is_loop i)) p.clear
cause i d₀ d₁ l m (Err e) p = elim p.cause [ inl h ↦ inl h | inr h ↦ inr (subst (λ b. cause_of (b || d₀) (requests i) ≡ Some e) (or-false (is_loop i)) h) ]
