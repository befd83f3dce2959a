-- Texts: how they are put together, and why one is refused.
use Rattle.std.specs.Prelude.{◌≡◌, ℕ, true, false, List, [], ◌∷◌, ◌++◌, codes, Option, Some, None, Result, Ok, Err, MatchResult, ⊤}
use Rattle.s390x_text_rows.specs.declared.error.TextError.{TextError}
use Rattle.s390x_text_rows.specs.declared.error.TextError.TheVariants.{NoRow, NoMemory}

-- a text, and the first cause of refusing it
pub record Text : Type 0 where
  pub cause : Option TextError
  pub bytes : List ℕ

-- the first of two causes
abbrev pub first_cause : Option TextError → Option TextError → Option TextError
first_cause None later = later
first_cause (Some e) later = Some e

-- a text that is never refused
abbrev pub fixed_text : List ℕ → Text
fixed_text s = record { cause = None; bytes = s }

-- two texts, one behind the other
abbrev pub both : Text → Text → Text
both t u = record { cause = first_cause t.cause u.cause; bytes = t.bytes ++ u.bytes }

-- a text before a semicolon
abbrev pub before_semicolon : Text → Text
before_semicolon t = record { cause = t.cause; bytes = t.bytes ++ codes " ; " }

-- operands, each behind a comma and a space
abbrev pub more_operands : List (List ℕ) → List ℕ
more_operands [] = []
more_operands (x ∷ xs) = codes ", " ++ (x ++ more_operands xs)

-- operands behind a space, joined by commas and spaces
abbrev pub operands : List (List ℕ) → List ℕ
operands [] = []
operands (x ∷ xs) = codes " " ++ (x ++ more_operands xs)

-- a machine instruction: its mnemonic and its operands
abbrev pub instruction_text : List ℕ → List (List ℕ) → List ℕ
instruction_text mnemonic xs = mnemonic ++ operands xs

-- a machine instruction, its mnemonic and its operands, where there may be no row
abbrev pub row : Option (List ℕ) → List (List ℕ) → Text
row None xs = record { cause = Some NoRow; bytes = [] }
row (Some mnemonic) xs = fixed_text (instruction_text mnemonic xs)

-- an error is the cause, or want of memory
abbrev pub RefusedBy : Option TextError → TextError → Type 0
RefusedBy cause NoMemory = ⊤
RefusedBy cause e = cause ≡ Some e

-- what a call answers that appends a text
abbrev pub Prints : {T : Type 0} → Result T TextError → (old new : List ℕ) → Text → Type 0
Prints result old new t = MatchResult result (λ _. (t.cause ≡ None) × (new ≡ old ++ t.bytes)) (λ e. RefusedBy t.cause e)

-- what a call answers that appends a text where there is one, and otherwise appends nothing
abbrev pub PrintsWhere : {T : Type 0} → Option (Result T TextError) → (old new : List ℕ) → Option Text → Type 0
PrintsWhere None old new None = new ≡ old
PrintsWhere None old new (Some t) = false ≡ true
PrintsWhere (Some result) old new None = false ≡ true
PrintsWhere (Some result) old new (Some t) = Prints result old new t

-- a text where there is one, else another
abbrev pub text_or : Option Text → Text → Text
text_or None other = other
text_or (Some t) other = t

-- the answer of a call that appends what is never refused: it lacks memory, or not
abbrev pub answer_of : {T E : Type 0} → Result T E → Result T TextError
answer_of (Ok x) = Ok x
answer_of (Err e) = Err NoMemory
