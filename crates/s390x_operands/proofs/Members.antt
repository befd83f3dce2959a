-- The requests of a loop are those of its members.
use Rattle.std.proofs.Common.{◌≡◌, ℕ, ◌+◌, ◌<◌, ◌≤◌, Bool, true, ◌||◌, List, ◌++◌, length, get_or, drop, Result, IsErrAnd, refl, sym, ap, subst, ◌∙◌, Vec, Global}
use Rattle.std.proofs.lemmas.List.{drop_all}
use Rattle.std.proofs.lemmas.Bool.{or_right}
use Rattle.s390x_inst.specs.declared.inst.Inst.{Inst, Row_of-Inst, end_of-Inst, more_of-Inst, items-the_row-Inst, items_hidden-the_row-Inst-0}
use Rattle.s390x_inst.specs.declared.inst.Inst.TheBlock.{hidden-the_row-Inst-0}
use Rattle.s390x_inst.specs.declared.inst.Inst.TheViews as V
use Rattle.s390x_operands.specs.declared.constraint.OperandError.{OperandError}
use Rattle.s390x_operands.specs.declared.constraint.Reported.{Reported}
use Rattle.s390x_operands.specs.Requests.{Passes, Refuses, Reports}
use Rattle.s390x_operands.specs.Operands.{requests, row_requests, members_requests, is_loop}
use Rattle.s390x_operands.proofs.Reporting.{reports_then, refused_before, passes_none}
use Rattle.s390x_operands.proofs.Looping.{cons_of}

row-members : {n : _} (k : Row_of-Inst n) → row_requests k ≡ members_requests (items-the_row-Inst n k)
row-members end_of-Inst = refl
row-members (more_of-Inst i rest) = ap (λ t. requests i ++ t) (row-members rest)

pub requests_loop : (i : Inst) (mask : ℕ) (v : Vec Inst Global) (s : List Inst) → i ≡ V.Loop mask v → s ≡ v.items → requests i ≡ members_requests s
requests_loop i mask v s is at =
    ap requests is ∙ (row-members (hidden-the_row-Inst-0 v) ∙ ap members_requests (items_hidden-the_row-Inst-0 v) ∙ ap members_requests (sym at))

pub looped : (i : Inst) (mask : ℕ) (v : Vec Inst Global) → i ≡ V.Loop mask v → is_loop i ≡ true
looped i mask v is = ap is_loop is

-- the requests of a loop, from those of its members
pub reports_loop : (i : Inst) (mask : ℕ) (v : Vec Inst Global) (s : List Inst) (a d₀ d₁ : Bool) (l m : List Reported) (r : Result (Unit {0}) OperandError) → i ≡ V.Loop mask v → s ≡ v.items → Reports true (members_requests s) l m d₀ d₁ r → Reports (is_loop i || a) (requests i) l m d₀ d₁ r
reports_loop i mask v s a d₀ d₁ l m r is at p =
    subst (λ b. Reports (b || a) (requests i) l m d₀ d₁ r) (sym (looped i mask v is)) (subst (λ xs. Reports true xs l m d₀ d₁ r) (sym (requests_loop i mask v s is at)) p)

members_of : (is : List Inst) (k : ℕ) (i : Inst) → k < length is → i ≡ get_or is k i → members_requests (drop k is) ≡ requests i ++ members_requests (drop (k + 1) is)
members_of is k i lt at = ap members_requests (cons_of is k i lt at)

-- a member that passes
pub member_turn : (is : List Inst) (k : ℕ) (i : Inst) (d₀ d₁ d₂ : Bool) (l m n : List Reported) (r : Result (Unit {0}) OperandError) → k < length is → i ≡ get_or is k i → Passes (is_loop i || true) (requests i) l m d₀ d₁ → Reports true (members_requests (drop (k + 1) is)) m n d₁ d₂ r → Reports true (members_requests (drop k is)) l n d₀ d₂ r
member_turn is k i d₀ d₁ d₂ l m n r lt at p q =
    subst (λ ys. Reports true ys l n d₀ d₂ r) (sym (members_of is k i lt at)) (reports_then true d₀ d₁ d₂ (requests i) (members_requests (drop (k + 1) is)) l m n r (subst (λ b. Passes b (requests i) l m d₀ d₁) (or_right (is_loop i) true refl) p) q)

-- a member that is refused
pub member_stop : (is : List Inst) (k : ℕ) (i : Inst) (d₀ d₁ : Bool) (l m : List Reported) (e : OperandError) (r : Result (Unit {0}) OperandError) → k < length is → i ≡ get_or is k i → IsErrAnd r (λ y. y ≡ e) → Refuses (is_loop i || true) (requests i) l m d₀ d₁ e → Reports true (members_requests (drop k is)) l m d₀ d₁ r
member_stop is k i d₀ d₁ l m e r lt at h p =
    subst (λ ys. Reports true ys l m d₀ d₁ r) (sym (members_of is k i lt at)) (refused_before true d₀ d₁ (requests i) (members_requests (drop (k + 1) is)) l m e r h (subst (λ b. Refuses b (requests i) l m d₀ d₁ e) (or_right (is_loop i) true refl) p))

pub members_done : (is : List Inst) (k : ℕ) (d : Bool) (l : List Reported) → length is ≤ k → Passes true (members_requests (drop k is)) l l d d
members_done is k d l h = subst (λ ys. Passes true (members_requests ys) l l d d) (sym (drop_all k is h)) (passes_none true d l)
