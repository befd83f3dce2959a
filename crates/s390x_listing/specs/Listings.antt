-- Listings: texts that may be refused, one behind the other.
use Rattle.std.specs.Prelude.{◌≡◌, ℕ, ◌+◌, List, [], ◌∷◌, ◌++◌, codes, Option, Some, None, Result, MatchResult, ◌⊎◌}
use Rattle.std.specs.Fmt.{decimal}
use Rattle.s390x_operands.specs.declared.constraint.OperandError.{OperandError}
use Rattle.s390x_operands.specs.declared.constraint.OperandError.TheVariants.{NoMemory}
use Rattle.s390x_operands.specs.Requests.{first_operand_cause}

-- a text, and the first cause of refusing it, want of memory aside
pub record Listing : Type 0 where
  pub cause : Option OperandError
  pub bytes : List ℕ

-- a text that is never refused
abbrev pub fixed_listing : List ℕ → Listing
fixed_listing s = record { cause = None; bytes = s }

-- two texts, one behind the other; the first cause decides
abbrev pub both : Listing → Listing → Listing
both t u = record { cause = first_operand_cause t.cause u.cause; bytes = t.bytes ++ u.bytes }

-- the texts of all elements, which are counted from a number on
abbrev pub each : {A : Type 0} → (ℕ → A → Listing) → ℕ → List A → Listing
each text k [] = fixed_listing []
each text k (x ∷ xs) = both (text k x) (each text (k + 1) xs)

-- `block K` and a line feed
abbrev pub block_head : ℕ → List ℕ
block_head k = codes "block " ++ (decimal k ++ 10 ∷ [])

-- an error is the cause, or want of memory
abbrev pub IsCause : Option OperandError → OperandError → Type 0
IsCause cause e = (e ≡ NoMemory) ⊎ (cause ≡ Some e)

-- what a call answers that appends a text
abbrev pub Appends : {T : Type 0} → Result T OperandError → (old new : List ℕ) → Listing → Type 0
Appends result old new t = MatchResult result (λ _. (t.cause ≡ None) × (new ≡ old ++ t.bytes)) (λ e. IsCause t.cause e)
