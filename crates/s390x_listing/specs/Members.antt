-- The registers of a set, as text.
use Rattle.std.specs.Prelude.{◌≡◌, ℕ, Bool, true, false, ◌&&◌, List, [], ◌∷◌, ◌++◌, Result, IfOk}
use Rattle.s390x_base.specs.Registers.{RealRegister, general, vector}
use Rattle.s390x_job_fields.specs.Atoms.{real_text}
use Rattle.s390x_job_fields.specs.Lists.{more_text}
use Rattle.s390x_job_fields.specs.Sets.{members_below}

-- the general registers of a set, numbers rising
unfoldable pub general_members : (RealRegister → Bool) → List RealRegister
general_members has = members_below general has 16

-- the vector registers of a set, numbers rising
unfoldable pub vector_members : (RealRegister → Bool) → List RealRegister
vector_members has = members_below vector has 32

-- whether a list has no member
abbrev pub no_member : List RealRegister → Bool
no_member [] = true
no_member (x ∷ xs) = false

-- members, each behind a comma; the first one without it where nothing stands before it
abbrev pub members_text : (is_first : Bool) → List RealRegister → List ℕ
members_text false xs = more_text real_text xs
members_text true [] = []
members_text true (x ∷ xs) = real_text x ++ more_text real_text xs

-- members were appended; the answer is whether the next one is the first
abbrev pub Listed : {E : Type 0} → (is_first : Bool) → List RealRegister → (old new : List ℕ) → Result Bool E → Type 0
Listed is_first xs old new r = IfOk r (λ first. (first ≡ (is_first && no_member xs)) × (new ≡ old ++ members_text is_first xs))
