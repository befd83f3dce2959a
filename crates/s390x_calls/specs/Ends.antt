-- How a call ends, whatever it is asked of a text. A name with a prime is of what a call leaves.
use Rattle.std.specs.Prelude.{◌≡◌, ◌≤◌, ◌<◌, ℕ, List, length}
use Rattle.s390x_job.specs.Completions.{pieces}
use Rattle.s390x_calls.specs.Status.{number_of_status}
use Rattle.s390x_calls.specs.declared.status.Status.{Status}
use Rattle.s390x_calls.specs.declared.status.Status.TheVariants as status

-- the input has too many bytes
abbrev pub IsTooLong : List ℕ → Type 0
IsTooLong input = 16777216 < length input

-- the input isn't too long and is no such text, and the reason tells its first wrong line
pub record IsNoText {R : Type 0} (IsText : List ℕ → Type 0) (IsFirstWrong : List (List ℕ) → ℕ → Type 0) (at_line : ℕ → R)
    (input : List ℕ) (reason' : R) : Type 0 where
  pub short : length input ≤ 16777216
  pub none : IsText input → ⊥
  pub line : ℕ
  pub first : IsFirstWrong (pieces input) line
  pub told : reason' ≡ at_line line

-- the input isn't too long, it is the text of this, the only one of its kind, and the call ends so on it
pub record EndsOnText {A : Type 0} (input : List ℕ) (IsItsText : A → Type 0) (Ends : A → Status → Type 0) (s : Status) : Type 0 where
  pub short : length input ≤ 16777216
  pub what : A
  pub text : IsItsText what
  pub ends : Ends what s

-- How a call ends on an input, too long exactly where that has too many bytes: with `IsWrong` it is no text, with `Unwritten` nothing but the reason is written, and with `Kept` neither is
-- the reason
abbrev pub EndsTo : {A : Type 0} → (input : List ℕ) → (IsItsText : A → Type 0) → (IsWrong Unwritten Kept : Type 0)
    → (Ends : A → Status → Type 0) → Status → Type 0
EndsTo input IsItsText IsWrong Unwritten Kept Ends status.Syntax = IsWrong × Unwritten
EndsTo input IsItsText IsWrong Unwritten Kept Ends status.TooLong = IsTooLong input × Unwritten × Kept
EndsTo input IsItsText IsWrong Unwritten Kept Ends status.NoMemory = Unwritten × Kept × (length input ≤ 16777216)
EndsTo input IsItsText IsWrong Unwritten Kept Ends s = EndsOnText input IsItsText Ends s

-- the number is that of a status with which the call ends so
pub record EndsWithNumber (Ends : Status → Type 0) (number : ℕ) : Type 0 where
  pub ended : Status
  pub numbered : number ≡ number_of_status ended
  pub so : Ends ended

-- the input isn't too long, it is such a text, and this holds of what it is the text of
pub record IsTextSuchThat {A : Type 0} (IsText : List ℕ → Type 0) (IsItsText : A → Type 0) (Holds : A → Type 0) (input : List ℕ) : Type 0 where
  pub short : length input ≤ 16777216
  pub is : IsText input
  pub holds : (a : A) → IsItsText a → Holds a
