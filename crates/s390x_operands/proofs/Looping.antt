-- Requests of a list, one turn of a loop after the other.
use Rattle.std.proofs.Common.{◌≡◌, ℕ, suc, ◌+◌, ◌-◌, ◌<◌, ◌≤◌, Bool, List, [], ◌∷◌, map, length, get_or, drop, drop-cons, Option, Result, IsErrAnd, sym, ap, subst, ◌∙◌, arith}
use Rattle.std.proofs.lemmas.List.{drop_all}
use Rattle.std.specs.List.{range_with_len}
use Rattle.s390x_operands.specs.declared.constraint.OperandError.{OperandError}
use Rattle.s390x_operands.specs.declared.constraint.Reported.{Reported}
use Rattle.s390x_operands.specs.Requests.{Passes, Refuses, Reports}
use Rattle.s390x_operands.proofs.Reporting.{reports_next, refused_first, passes_none}

pub cons_of : {T : Type 0} (xs : List T) (k : ℕ) (x : T) → k < length xs → x ≡ get_or xs k x → drop k xs ≡ x ∷ drop (k + 1) xs
cons_of xs k x lt at =
    let k1 : suc k ≡ k + 1 = omega arith in
    drop-cons xs k x lt ∙ ap (λ y. y ∷ drop (suc k) xs) (sym at) ∙ ap (λ m. x ∷ drop m xs) k1

-- a turn that passes
pub turn : {T : Type 0} (f : T → Option Reported) (xs : List T) (k : ℕ) (x : T) (a d₀ d₁ d₂ : Bool) (l m n : List Reported) (r : Result (Unit {0}) OperandError) → k < length xs → x ≡ get_or xs k x → Passes a (f x ∷ []) l m d₀ d₁ → Reports a (map f (drop (k + 1) xs)) m n d₁ d₂ r → Reports a (map f (drop k xs)) l n d₀ d₂ r
turn f xs k x a d₀ d₁ d₂ l m n r lt at p q =
    subst (λ ys. Reports a (map f ys) l n d₀ d₂ r) (sym (cons_of xs k x lt at)) (reports_next a d₀ d₁ d₂ (f x) (map f (drop (k + 1) xs)) l m n r p q)

-- a turn that is refused
pub stop : {T : Type 0} (f : T → Option Reported) (xs : List T) (k : ℕ) (x : T) (a d₀ d₁ : Bool) (l m : List Reported) (e : OperandError) (r : Result (Unit {0}) OperandError) → k < length xs → x ≡ get_or xs k x → IsErrAnd r (λ y. y ≡ e) → Refuses a (f x ∷ []) l m d₀ d₁ e → Reports a (map f (drop k xs)) l m d₀ d₁ r
stop f xs k x a d₀ d₁ l m e r lt at h p =
    subst (λ ys. Reports a (map f ys) l m d₀ d₁ r) (sym (cons_of xs k x lt at)) (refused_first a d₀ d₁ (f x) (map f (drop (k + 1) xs)) l m e r h p)

-- all turns are done
pub done : {T : Type 0} (f : T → Option Reported) (xs : List T) (k : ℕ) (a d : Bool) (l : List Reported) → length xs ≤ k → Passes a (map f (drop k xs)) l l d d
done f xs k a d l h = subst (λ ys. Passes a (map f ys) l l d d) (sym (drop_all k xs h)) (passes_none a d l)

-- numbers below an end
numbers_of : (k e : ℕ) → k < e → range_with_len k (e - k) ≡ k ∷ range_with_len (k + 1) (e - (k + 1))
numbers_of k e lt =
    let h : e - k ≡ suc (e - (k + 1)) = omega arith in
    ap (λ n. range_with_len k n) h

pub number_turn : (f : ℕ → Option Reported) (k e : ℕ) (a d₀ d₁ d₂ : Bool) (l m n : List Reported) (r : Result (Unit {0}) OperandError) → k < e → Passes a (f k ∷ []) l m d₀ d₁ → Reports a (map f (range_with_len (k + 1) (e - (k + 1)))) m n d₁ d₂ r → Reports a (map f (range_with_len k (e - k))) l n d₀ d₂ r
number_turn f k e a d₀ d₁ d₂ l m n r lt p q =
    subst (λ ys. Reports a (map f ys) l n d₀ d₂ r) (sym (numbers_of k e lt)) (reports_next a d₀ d₁ d₂ (f k) (map f (range_with_len (k + 1) (e - (k + 1)))) l m n r p q)

pub number_stop : (f : ℕ → Option Reported) (k e : ℕ) (a d₀ d₁ : Bool) (l m : List Reported) (x : OperandError) (r : Result (Unit {0}) OperandError) → k < e → IsErrAnd r (λ y. y ≡ x) → Refuses a (f k ∷ []) l m d₀ d₁ x → Reports a (map f (range_with_len k (e - k))) l m d₀ d₁ r
number_stop f k e a d₀ d₁ l m x r lt h p =
    subst (λ ys. Reports a (map f ys) l m d₀ d₁ r) (sym (numbers_of k e lt)) (refused_first a d₀ d₁ (f k) (map f (range_with_len (k + 1) (e - (k + 1)))) l m x r h p)

pub number_done : (f : ℕ → Option Reported) (k e : ℕ) (a d : Bool) (l : List Reported) → e ≤ k → Passes a (map f (range_with_len k (e - k))) l l d d
number_done f k e a d l h =
    let z : e - k ≡ 0 = omega arith in
    subst (λ n. Passes a (map f (range_with_len k n)) l l d d) (sym z) (passes_none a d l)
