-- Members of a set, one behind the other.
use Rattle.std.proofs.Common.{◌≡◌, ℕ, ◌+◌, Bool, true, false, not, ◌&&◌, List, [], ◌∷◌, ◌++◌, refl, sym, ap, ◌∙◌, append_assoc, add-one, if◌then◌else◌}
use Rattle.s390x_base.specs.Registers.{RealRegister}
use Rattle.s390x_job_fields.specs.Atoms.{real_text}
use Rattle.s390x_job_fields.specs.Lists.{list_text, more_text}
use Rattle.s390x_job_fields.specs.Sets.{members_below, members_of}
use Rattle.s390x_listing.specs.Members.{general_members, members_text, no_member, vector_members}

more_append : (xs ys : List RealRegister) → more_text real_text (xs ++ ys) ≡ more_text real_text xs ++ more_text real_text ys
more_append [] ys = refl
more_append (x ∷ xs) ys =
    ap (λ t. 44 ∷ (real_text x ++ t)) (more_append xs ys) ∙ ap (λ t. 44 ∷ t) (sym (append_assoc (real_text x) (more_text real_text xs) (more_text real_text ys)))

-- members behind members
pub text_append : (first : Bool) (xs ys : List RealRegister) → members_text first (xs ++ ys) ≡ members_text first xs ++ members_text (first && no_member xs) ys
text_append false xs ys = more_append xs ys
text_append true [] ys = refl
text_append true (x ∷ xs) ys =
    ap (λ t. real_text x ++ t) (more_append xs ys) ∙ sym (append_assoc (real_text x) (more_text real_text xs) (more_text real_text ys))

pub none_append : (first : Bool) (xs ys : List RealRegister) → (first && no_member (xs ++ ys)) ≡ ((first && no_member xs) && no_member ys)
none_append true [] ys = refl
none_append first xs ys = refl

pub no_text : (first : Bool) (xs : List RealRegister) → false ≡ not (no_member xs) → members_text first xs ≡ []
no_text false [] e = refl
no_text true [] e = refl
no_text first (x ∷ xs) e = absurd cc

-- a list of members in brackets
pub list_is : (xs : List RealRegister) → list_text real_text xs ≡ 91 ∷ (members_text true xs ++ 93 ∷ [])
list_is [] = refl
list_is (x ∷ xs) = refl

-- the next register, where it is a member
abbrev next : (ℕ → RealRegister) → (RealRegister → Bool) → ℕ → List RealRegister
next of has n = if has (of n) then of n ∷ [] else []

same_next : (of : ℕ → RealRegister) (has : RealRegister → Bool) (n : ℕ) (r : RealRegister) (m : Bool) → m ≡ has r → r ≡ of n → (if m then r ∷ [] else []) ≡ next of has n
same_next of has n r m is at = ap (λ q. if q then r ∷ [] else []) is ∙ ap (λ x. if has x then x ∷ [] else []) at

below_more : (of : ℕ → RealRegister) (has : RealRegister → Bool) (n : ℕ) → members_below of has (n + 1) ≡ members_below of has n ++ next of has n
below_more of has n = ap (members_below of has) (add-one n)

pub first_goes_on : (of : ℕ → RealRegister) (has : RealRegister → Bool) (n : ℕ) (b0 b new : Bool) (r : RealRegister) (m : Bool) → m ≡ has r → r ≡ of n
    → b ≡ (b0 && no_member (members_below of has n)) → new ≡ (b && no_member (if m then r ∷ [] else [])) → new ≡ (b0 && no_member (members_below of has (n + 1)))
first_goes_on of has n b0 b new r m is at inv step =
    step
    ∙ ap (λ t. b && no_member t) (same_next of has n r m is at)
    ∙ ap (λ c. c && no_member (next of has n)) inv
    ∙ sym (none_append b0 (members_below of has n) (next of has n))
    ∙ ap (λ t. b0 && no_member t) (sym (below_more of has n))

pub text_goes_on : (of : ℕ → RealRegister) (has : RealRegister → Bool) (n : ℕ) (b0 b : Bool) (old mid new : List ℕ) (r : RealRegister) (m : Bool) → m ≡ has r → r ≡ of n
    → b ≡ (b0 && no_member (members_below of has n)) → mid ≡ old ++ members_text b0 (members_below of has n) → new ≡ mid ++ members_text b (if m then r ∷ [] else [])
    → new ≡ old ++ members_text b0 (members_below of has (n + 1))
text_goes_on of has n b0 b old mid new r m is at first inv step =
    let before = members_below of has n in
    let more = next of has n in
    step
    ∙ ap (λ t. mid ++ members_text b t) (same_next of has n r m is at)
    ∙ ap (λ c. mid ++ members_text c more) first
    ∙ ap (λ t. t ++ members_text (b0 && no_member before) more) inv
    ∙ append_assoc old (members_text b0 before) (members_text (b0 && no_member before) more)
    ∙ ap (λ t. old ++ t) (sym (text_append b0 before more))
    ∙ ap (λ t. old ++ members_text b0 t) (sym (below_more of has n))

-- the members of a set in brackets, class by class
pub both_classes : (has : RealRegister → Bool)
    → list_text real_text (members_of has) ≡ 91 ∷ ((members_text true (general_members has) ++ members_text (no_member (general_members has)) (vector_members has)) ++ 93 ∷ [])
unfolding general_members vector_members members_of
both_classes has =
    list_is (general_members has ++ vector_members has) ∙ ap (λ t. 91 ∷ (t ++ 93 ∷ [])) (text_append true (general_members has) (vector_members has))

-- the number that a loop has come to
pub first_at : (of : ℕ → RealRegister) (has : RealRegister → Bool) (b0 b : Bool) (n m : ℕ) → n ≡ m → b ≡ (b0 && no_member (members_below of has n)) → b ≡ (b0 && no_member (members_below of has m))
first_at of has b0 b n m e inv = inv ∙ ap (λ k. b0 && no_member (members_below of has k)) e

pub text_at : (of : ℕ → RealRegister) (has : RealRegister → Bool) (b0 : Bool) (old new : List ℕ) (n m : ℕ) → n ≡ m → new ≡ old ++ members_text b0 (members_below of has n) → new ≡ old ++ members_text b0 (members_below of has m)
text_at of has b0 old new n m e inv = inv ∙ ap (λ k. old ++ members_text b0 (members_below of has k)) e

pub found_at : (of : ℕ → RealRegister) (has : RealRegister → Bool) (found : Bool) (n m : ℕ) → n ≡ m → found ≡ not (no_member (members_below of has n)) → found ≡ not (no_member (members_below of has m))
found_at of has found n m e inv = inv ∙ ap (λ k. not (no_member (members_below of has k))) e
