-- The words that the program takes.
use Rattle.std.specs.Prelude.{ℕ, ◌≡◌, ◌≢◌, slice_index, length, ◌^◌, ◌<◌, ◌≤◌, List, [], ◌∷◌, map, codes}
use Rattle.std.specs.String.{string_bytes}
use Rattle.std.specs.Fmt.{decimal}
use Rattle.std.specs.declared.string.String.{String}
use Rattle.s390x_tool.specs.declared.words.Command.{Command}
use Rattle.s390x_tool.specs.declared.words.Command.TheVariants.{OnJob, Generate, Simulate, Allocate, Bundle}
use Rattle.s390x_tool.specs.declared.words.JobCommand.TheVariants.{Image, Emit, Run, Operands, Show}

-- the words of a command; a number is decimal, without a leading zero
abbrev pub words_of : Command → List (List ℕ)
words_of (OnJob (Image base)) = codes "image" ∷ decimal base ∷ []
words_of (OnJob Emit) = codes "emit" ∷ []
words_of (OnJob (Run base steps)) = codes "run" ∷ decimal base ∷ decimal steps ∷ []
words_of (OnJob Operands) = codes "operands" ∷ []
words_of (OnJob Show) = codes "show" ∷ []
words_of (Generate count start) = codes "gen" ∷ decimal count ∷ decimal start ∷ []
words_of (Simulate base word count steps start) = codes "smp" ∷ decimal base ∷ decimal word ∷ decimal count ∷ decimal steps ∷ decimal start ∷ []
words_of Allocate = codes "alloc" ∷ []
words_of (Bundle base) = codes "bundle" ∷ decimal base ∷ []

-- the numbers of the command lie in their ranges
abbrev pub IsInRange : Command → Type 0
IsInRange (OnJob (Image base)) = base < 2 ^ 64
IsInRange (OnJob Emit) = Unit {0}
IsInRange (OnJob (Run base steps)) = (base < 2 ^ 64) × (steps ≤ 1000000)
IsInRange (OnJob Operands) = Unit {0}
IsInRange (OnJob Show) = Unit {0}
IsInRange (Generate count start) = (count ≤ 100000) × (start < 2 ^ 32)
IsInRange (Simulate base word count steps start) = (base < 2 ^ 64) × (word < 2 ^ 64) × (0 < count) × (count ≤ 64) × (steps ≤ 1000000) × (start < 2 ^ 32)
IsInRange Allocate = Unit {0}
IsInRange (Bundle base) = base < 2 ^ 64

-- these words are this command
pub record IsForm (words : List (List ℕ)) (command : Command) : Type 0 where
  pub spelled : words ≡ words_of command
  pub range : IsInRange command

-- these words are no command
abbrev pub IsNoForm : List (List ℕ) → Type 0
IsNoForm words = (command : Command) → IsForm words command → ⊥

-- the bytes of each word
abbrev pub texts : {Z : Type 0} → List (String Z) → List (List ℕ)
texts words = map string_bytes words

-- no sign stands first, and a zero only alone
abbrev pub IsPlain : List ℕ → Type 0
IsPlain digits = (slice_index digits 0 ≢ 43) × (slice_index digits 0 ≡ 48 → length digits ≡ 1)
