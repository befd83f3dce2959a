-- Requests one after the other.
use Rattle.std.proofs.Common.{◌≡◌, Bool, true, false, ◌||◌, ◌&&◌, cond, List, [], ◌∷◌, ◌++◌, Option, Some, None, Result, Ok, Err, IsErrAnd, inl, inr, refl, sym, ap, subst, ◌∙◌}
use Rattle.std.proofs.lemmas.List.{append_assoc, append-nil}
use Rattle.s390x_operands.specs.declared.constraint.OperandError.{OperandError}
use Rattle.s390x_operands.specs.declared.constraint.OperandError.TheVariants.{ReuseInLoop, NotReal}
use Rattle.s390x_operands.specs.declared.constraint.Reported.{Reported}
use Rattle.s390x_operands.specs.Visits.{Takes, item_cause, is_reuse}
use Rattle.s390x_operands.specs.Requests.{items_of, first_operand_cause, cause_of, Passes, Refuses, Reports}

-- the first of no cause and another
first-none : (c d : Option OperandError) → c ≡ None → d ≡ None → first_operand_cause c d ≡ None
first-none c d p q = (ap (λ x. first_operand_cause x d) p) ∙ q

first-some : (c d : Option OperandError) (e : OperandError) → c ≡ Some e → first_operand_cause c d ≡ Some e
first-some c d e p = ap (λ x. first_operand_cause x d) p

pub items-append : (xs ys : List (Option Reported)) → items_of (xs ++ ys) ≡ items_of xs ++ items_of ys
items-append [] ys = refl
items-append (None ∷ xs) ys = items-append xs ys
items-append (Some x ∷ xs) ys = ap (λ zs. x ∷ zs) (items-append xs ys)

cause-later : (d : Bool) (xs ys : List (Option Reported)) → cause_of d xs ≡ None → cause_of d (xs ++ ys) ≡ cause_of d ys
cause-later d [] ys h = refl
cause-later d (None ∷ xs) ys h = absurd (cc)
cause-later d (Some x ∷ xs) ys h =
    let P : Option OperandError → Type 0 = λ c. first_operand_cause c (cause_of d xs) ≡ None → first_operand_cause c (cause_of d (xs ++ ys)) ≡ cause_of d ys
    in elim (item_cause d x) as P [ None ↦ (λ g. cause-later d xs ys g) | Some e ↦ (λ g. absurd (cc)) ] h

cause-earlier : (d : Bool) (xs ys : List (Option Reported)) (e : OperandError) → cause_of d xs ≡ Some e → cause_of d (xs ++ ys) ≡ Some e
cause-earlier d [] ys e h = absurd (cc)
cause-earlier d (None ∷ xs) ys e h = h
cause-earlier d (Some x ∷ xs) ys e h =
    let P : Option OperandError → Type 0 = λ c. first_operand_cause c (cause_of d xs) ≡ Some e → first_operand_cause c (cause_of d (xs ++ ys)) ≡ Some e
    in elim (item_cause d x) as P [ None ↦ (λ g. cause-earlier d xs ys e g) | Some f ↦ (λ g. g) ] h

-- one list of requests after another
pub passes_then : {a d₀ d₁ d₂ : Bool} {xs ys : List (Option Reported)} {l m n : List Reported} → Passes a xs l m d₀ d₁ → Passes a ys m n d₁ d₂ → Passes a (xs ++ ys) l n d₀ d₂
passes_then {a = a} {d₀ = d₀} {xs = xs} {ys = ys} {l = l} p q =
    record {
      kept = q.kept ∙ p.kept;
      clear = cause-later (a || d₀) xs ys p.clear ∙ subst (λ d. cause_of (a || d) ys ≡ None) p.kept q.clear;
      appended = q.appended ∙ (ap (λ k. k ++ items_of ys) p.appended ∙ (append_assoc l (items_of xs) (items_of ys) ∙ ap (λ k. l ++ k) (sym (items-append xs ys))));
    }

pub refuses_then : {a d₀ d₁ d₂ : Bool} {xs ys : List (Option Reported)} {l m n : List Reported} {e : OperandError} → Passes a xs l m d₀ d₁ → Refuses a ys m n d₁ d₂ e → Refuses a (xs ++ ys) l n d₀ d₂ e
refuses_then {a = a} {d₀ = d₀} {xs = xs} {ys = ys} {l = l} {e = e} p q =
    record {
      kept = q.kept ∙ p.kept;
      extended =
          record {
            prefix = items_of xs ++ q.extended.prefix;
            rest = q.extended.rest;
            appended = q.extended.appended ∙ (ap (λ k. k ++ q.extended.prefix) p.appended ∙ append_assoc l (items_of xs) q.extended.prefix);
            parts = items-append xs ys ∙ (ap (λ k. items_of xs ++ k) q.extended.parts ∙ sym (append_assoc (items_of xs) q.extended.prefix q.extended.rest));
          };
      cause = elim q.cause [ inl h ↦ inl h | inr h ↦ inr (cause-later (a || d₀) xs ys p.clear ∙ subst (λ d. cause_of (a || d) ys ≡ Some e) p.kept h) ];
    }

-- a list of requests of which one is refused, with another list behind it
pub refuses_before : (a d₀ d₁ : Bool) (xs ys : List (Option Reported)) (l m : List Reported) (e : OperandError) → Refuses a xs l m d₀ d₁ e → Refuses a (xs ++ ys) l m d₀ d₁ e
refuses_before a d₀ d₁ xs ys l m e p =
    record {
      kept = p.kept;
      extended =
          record {
            prefix = p.extended.prefix;
            rest = p.extended.rest ++ items_of ys;
            appended = p.extended.appended;
            parts = items-append xs ys ∙ (ap (λ k. k ++ items_of ys) p.extended.parts ∙ append_assoc p.extended.prefix p.extended.rest (items_of ys));
          };
      cause = elim p.cause [ inl h ↦ inl h | inr h ↦ inr (cause-earlier (a || d₀) xs ys e h) ];
    }

pub reports_then : (a d₀ d₁ d₂ : Bool) (xs ys : List (Option Reported)) (l m n : List Reported) (r : Result (Unit {0}) OperandError) → Passes a xs l m d₀ d₁ → Reports a ys m n d₁ d₂ r → Reports a (xs ++ ys) l n d₀ d₂ r
reports_then a d₀ d₁ d₂ xs ys l m n (Ok u) p q = passes_then p q
reports_then a d₀ d₁ d₂ xs ys l m n (Err e) p q = refuses_then p q

-- one request, and then others
pub reports_next : (a d₀ d₁ d₂ : Bool) (x : Option Reported) (ys : List (Option Reported)) (l m n : List Reported) (r : Result (Unit {0}) OperandError) → Passes a (x ∷ []) l m d₀ d₁ → Reports a ys m n d₁ d₂ r → Reports a (x ∷ ys) l n d₀ d₂ r
reports_next a d₀ d₁ d₂ x ys l m n r p q = reports_then a d₀ d₁ d₂ (x ∷ []) ys l m n r p q

-- no request
pub passes_none : (a d : Bool) (l : List Reported) → Passes a [] l l d d
passes_none a d l = record { kept = refl; clear = refl; appended = sym (append-nil l) }

-- a request that has no item
pub refuses_unreal : (a d : Bool) (l : List Reported) → Refuses a (None ∷ []) l l d d NotReal
refuses_unreal a d l = record { kept = refl; extended = record { prefix = []; rest = []; appended = sym (append-nil l); parts = refl }; cause = inr refl }

same-cause : (a d : Bool) (x : Reported) → (a && is_reuse x) ≡ false → item_cause d x ≡ item_cause (a || d) x
same-cause false d x h = refl
same-cause true d x h =
    let P : Bool → Type 0 = λ b. b ≡ false → cond (d && b) (Some ReuseInLoop) None ≡ cond (true && b) (Some ReuseInLoop) None
    in elim (is_reuse x) as P [ true ↦ (λ g. absurd (cc)) | false ↦ (λ g. elim d as (λ c. cond (c && false) (Some ReuseInLoop) None ≡ None) [ true ↦ refl | false ↦ refl ]) ] h

-- what a visitor takes, where this is no reuse, or none is denied
pub reports_taken : (a d₀ d₁ : Bool) (x : Reported) (l m : List Reported) (r : Result (Unit {0}) OperandError) → (a && is_reuse x) ≡ false → d₁ ≡ d₀ → Takes d₀ x l m r → Reports a (Some x ∷ []) l m d₀ d₁ r
reports_taken a d₀ d₁ x l m (Ok u) h k t =
    record {
      kept = k;
      clear = first-none (item_cause (a || d₀) x) None (sym (same-cause a d₀ x h) ∙ t.1) refl;
      appended = t.0;
    }
reports_taken a d₀ d₁ x l m (Err e) h k t =
    record {
      kept = k;
      extended = record { prefix = []; rest = x ∷ []; appended = t.0 ∙ sym (append-nil l); parts = refl };
      cause = elim t.1 [ inl g ↦ inl g | inr g ↦ inr (first-some (item_cause (a || d₀) x) None e (sym (same-cause a d₀ x h) ∙ g)) ];
    }

-- a reuse that is denied
pub refuses_denied : (a d : Bool) (x : Reported) (l : List Reported) → a ≡ true → is_reuse x ≡ true → Refuses a (Some x ∷ []) l l d d ReuseInLoop
refuses_denied a d x l k h =
    record {
      kept = refl;
      extended = record { prefix = []; rest = x ∷ []; appended = sym (append-nil l); parts = refl };
      cause = inr (ap (λ b. first_operand_cause (cond ((b || d) && is_reuse x) (Some ReuseInLoop) None) None) k ∙ ap (λ b. first_operand_cause (cond (true && b) (Some ReuseInLoop) None) None) h);
    }

-- a refusal that is handed on
pub refused_again : (a d₀ d₁ : Bool) (xs : List (Option Reported)) (l m : List Reported) (e : OperandError) (r : Result (Unit {0}) OperandError) → IsErrAnd r (λ y. y ≡ e) → Refuses a xs l m d₀ d₁ e → Reports a xs l m d₀ d₁ r
refused_again a d₀ d₁ xs l m e (Ok u) h p = absurd h
refused_again a d₀ d₁ xs l m e (Err y) h p = subst (λ x. Refuses a xs l m d₀ d₁ x) (sym h) p

pub refused_before : (a d₀ d₁ : Bool) (xs ys : List (Option Reported)) (l m : List Reported) (e : OperandError) (r : Result (Unit {0}) OperandError) → IsErrAnd r (λ y. y ≡ e) → Refuses a xs l m d₀ d₁ e → Reports a (xs ++ ys) l m d₀ d₁ r
refused_before a d₀ d₁ xs ys l m e r h p = refused_again a d₀ d₁ (xs ++ ys) l m e r h (refuses_before a d₀ d₁ xs ys l m e p)

pub refused_first : (a d₀ d₁ : Bool) (x : Option Reported) (ys : List (Option Reported)) (l m : List Reported) (e : OperandError) (r : Result (Unit {0}) OperandError) → IsErrAnd r (λ y. y ≡ e) → Refuses a (x ∷ []) l m d₀ d₁ e → Reports a (x ∷ ys) l m d₀ d₁ r
refused_first a d₀ d₁ x ys l m e r h p = refused_before a d₀ d₁ (x ∷ []) ys l m e r h p

-- requests that are the same ones
pub reports_same : (a d₀ d₁ : Bool) (xs ys : List (Option Reported)) (l m : List Reported) (r : Result (Unit {0}) OperandError) → Reports a ys l m d₀ d₁ r → xs ≡ ys → Reports a xs l m d₀ d₁ r
reports_same a d₀ d₁ xs ys l m r p e = subst (λ zs. Reports a zs l m d₀ d₁ r) (sym e) p

pub passes_same : (a d₀ d₁ : Bool) (xs ys : List (Option Reported)) (l m : List Reported) → Passes a ys l m d₀ d₁ → xs ≡ ys → Passes a xs l m d₀ d₁
passes_same a d₀ d₁ xs ys l m p e = subst (λ zs. Passes a zs l m d₀ d₁) (sym e) p

pub refuses_same : (a d₀ d₁ : Bool) (xs ys : List (Option Reported)) (l m : List Reported) (x : OperandError) → Refuses a ys l m d₀ d₁ x → xs ≡ ys → Refuses a xs l m d₀ d₁ x
refuses_same a d₀ d₁ xs ys l m x p e = subst (λ zs. Refuses a zs l m d₀ d₁ x) (sym e) p
