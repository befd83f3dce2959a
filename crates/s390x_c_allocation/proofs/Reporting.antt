-- Loops over the elements of a report.
use Rattle.std.proofs.Common.{◌≡◌, ℕ, ◌+◌, ◌<◌, List, ◌++◌, length, get_or, drop, sym, ap, ◌∙◌, subst, append_assoc}
use Rattle.std.proofs.lemmas.List.{drop_more}
use Rattle.std.specs.Prelude.{Option, None, Some, Result, Ok, Err, MatchResult, IsErrAnd}
use Rattle.s390x_c_allocation.specs.Reports.{IsReportError, Report, both, each, first_of}
use Rattle.s390x_c_allocation.specs.declared.operand_entries.OperandEntry.{OperandEntry}
use Rattle.s390x_c_allocation.specs.declared.report.ReportError.{ReportError}
use Rattle.s390x_c_allocation.specs.declared.report.ReportError.TheVariants as error
use Rattle.s390x_c_allocation.specs.declared.report.Unreported.{Unreported}

-- the report of the element at an index stands before those behind it
at_index : {A : Type 0} (f : ℕ → A → Report) (xs : List A) (i : ℕ) (z d : A) → i < length xs → d ≡ get_or xs i z → each f i (drop i xs) ≡ both (f i d) (each f (i + 1) (drop (i + 1) xs))
at_index f xs i z d h e = ap (each f i) (drop_more xs i z h) ∙ ap (λ y. both (f i y) (each f (i + 1) (drop (i + 1) xs))) (sym e)

pub entries_go_on : {A : Type 0} (f : ℕ → A → Report) (xs : List A) (i : ℕ) (z d : A) (old out new : List OperandEntry) → i < length xs → d ≡ get_or xs i z
    → new ≡ out ++ (f i d).entries → out ++ (each f i (drop i xs)).entries ≡ old → new ++ (each f (i + 1) (drop (i + 1) xs)).entries ≡ old
entries_go_on f xs i z d old out new h e n inv =
    let rest = (each f (i + 1) (drop (i + 1) xs)).entries in
    ap (λ t. t ++ rest) n ∙ append_assoc out (f i d).entries rest ∙ ap (λ t. out ++ t.entries) (sym (at_index f xs i z d h e)) ∙ inv

pub first_goes_on : {A : Type 0} (f : ℕ → A → Report) (xs : List A) (i : ℕ) (z d : A) (c : Option Unreported) → i < length xs → d ≡ get_or xs i z
    → (f i d).first ≡ None → (each f i (drop i xs)).first ≡ c → (each f (i + 1) (drop (i + 1) xs)).first ≡ c
first_goes_on f xs i z d c h e n inv =
    sym (ap (λ p. first_of p (each f (i + 1) (drop (i + 1) xs)).first) n) ∙ ap (λ t. t.first) (sym (at_index f xs i z d h e)) ∙ inv

-- what refuses the first of two reports refuses both
refuses_both : (a b : Option Unreported) (e : ReportError) → IsReportError a e → IsReportError (first_of a b) e
refuses_both a b error.NoMemory is = tt
refuses_both a b (error.Unreported u) is = ap (λ q. first_of q b) is

-- an element can't be reported, and so can't those from it on
pub stops : {A : Type 0} (f : ℕ → A → Report) (xs : List A) (i : ℕ) (z d : A) (c : Option Unreported) (e : ReportError) → i < length xs → d ≡ get_or xs i z
    → IsReportError (f i d).first e → (each f i (drop i xs)).first ≡ c → IsReportError c e
stops f xs i z d c e h is b inv =
    subst (λ r. IsReportError r e) (ap (λ t. t.first) (sym (at_index f xs i z d h is)) ∙ inv) (refuses_both (f i d).first (each f (i + 1) (drop (i + 1) xs)).first e b)

-- a refusal is handed on
pub again : {T : Type 0} (P : T → Type 0) (Q : ReportError → Type 0) (r : Result T ReportError) (e : ReportError) → IsErrAnd r (λ y. y ≡ e) → Q e → MatchResult r P Q
again P Q (Ok x) e a q = absurd a
again P Q (Err y) e a q = subst Q (sym a) q
