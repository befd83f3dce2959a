-- Loops over the elements of a listing.
use Rattle.std.proofs.Common.{◌≡◌, ℕ, ◌+◌, ◌<◌, inl, inr, List, ◌++◌, length, get_or, drop, sym, ap, ◌∙◌, subst, append_assoc}
use Rattle.std.proofs.lemmas.List.{drop_more}
use Rattle.std.specs.Prelude.{Option, None, Result, Ok, Err, MatchResult, IsErrAnd}
use Rattle.s390x_operands.specs.declared.constraint.OperandError.{OperandError}
use Rattle.s390x_operands.specs.Requests.{first_operand_cause}
use Rattle.s390x_listing.specs.Listings.{Listing, Appends, both, each, fixed_listing, IsCause}

-- the text of the element at an index stands before those behind it
at_index : {A : Type 0} (f : ℕ → A → Listing) (xs : List A) (i : ℕ) (z d : A) → i < length xs → d ≡ get_or xs i z → each f i (drop i xs) ≡ both (f i d) (each f (i + 1) (drop (i + 1) xs))
at_index f xs i z d h e = ap (each f i) (drop_more xs i z h) ∙ ap (λ y. both (f i y) (each f (i + 1) (drop (i + 1) xs))) (sym e)

pub bytes_go_on : {A : Type 0} (f : ℕ → A → Listing) (xs : List A) (i : ℕ) (z d : A) (old out new : List ℕ) → i < length xs → d ≡ get_or xs i z
    → new ≡ out ++ (f i d).bytes → out ++ (each f i (drop i xs)).bytes ≡ old → new ++ (each f (i + 1) (drop (i + 1) xs)).bytes ≡ old
bytes_go_on f xs i z d old out new h e n inv =
    let rest = (each f (i + 1) (drop (i + 1) xs)).bytes in
    ap (λ t. t ++ rest) n ∙ append_assoc out (f i d).bytes rest ∙ ap (λ t. out ++ t.bytes) (sym (at_index f xs i z d h e)) ∙ inv

pub cause_goes_on : {A : Type 0} (f : ℕ → A → Listing) (xs : List A) (i : ℕ) (z d : A) (c : Option OperandError) → i < length xs → d ≡ get_or xs i z
    → (f i d).cause ≡ None → (each f i (drop i xs)).cause ≡ c → (each f (i + 1) (drop (i + 1) xs)).cause ≡ c
cause_goes_on f xs i z d c h e n inv =
    sym (ap (λ p. first_operand_cause p (each f (i + 1) (drop (i + 1) xs)).cause) n) ∙ ap (λ t. t.cause) (sym (at_index f xs i z d h e)) ∙ inv

-- what refuses the first of two texts refuses both
pub refuses_both : (a b : Option OperandError) (e : OperandError) → IsCause a e → IsCause (first_operand_cause a b) e
refuses_both a b e (inl short) = inl short
refuses_both a b e (inr cause) = inr (ap (λ q. first_operand_cause q b) cause)

-- an element is refused, and so are those from it on
pub stops : {A : Type 0} (f : ℕ → A → Listing) (xs : List A) (i : ℕ) (z d : A) (c : Option OperandError) (error : OperandError) → i < length xs → d ≡ get_or xs i z
    → IsCause (f i d).cause error → (each f i (drop i xs)).cause ≡ c → IsCause c error
stops f xs i z d c error h e b inv =
    subst (λ r. IsCause r error) (ap (λ t. t.cause) (sym (at_index f xs i z d h e)) ∙ inv) (refuses_both (f i d).cause (each f (i + 1) (drop (i + 1) xs)).cause error b)

-- a refusal is handed on
pub again : {T : Type 0} (P : T → Type 0) (Q : OperandError → Type 0) (r : Result T OperandError) (e : OperandError) → IsErrAnd r (λ y. y ≡ e) → Q e → MatchResult r P Q
again P Q (Ok x) e a q = absurd a
again P Q (Err y) e a q = subst Q (sym a) q

-- a text behind a head that is never refused
pub behind_head : {T : Type 0} (r : Result T OperandError) (old head mid new : List ℕ) (t : Listing) → mid ≡ old ++ head → Appends r mid new t → Appends r old new (both (fixed_listing head) t)
behind_head (Ok x) old head mid new t h a = (a.0, a.1 ∙ ap (λ m. m ++ t.bytes) h ∙ append_assoc old head t.bytes)
behind_head (Err e) old head mid new t h a = a
