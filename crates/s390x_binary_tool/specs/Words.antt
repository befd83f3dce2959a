-- The words that the second program takes.
use Rattle.std.specs.Prelude.{ℕ, ◌≡◌, ◌⊎◌, ◌^◌, ◌<◌, List, [], ◌∷◌, codes, get_or}
use Rattle.std.specs.Fmt.{decimal}
use Rattle.s390x_binary_tool.specs.declared.words.Command.{Command}
use Rattle.s390x_binary_tool.specs.declared.words.Command.TheVariants.{Refusal, Verify, Disassemble, Assemble, Listing, Object, Objects}

-- the name for `object`: the word behind it, or `function`
abbrev pub object_name : List (List ℕ) → List ℕ
object_name words = get_or words 1 (codes "function")

-- the words are the command's; a number is decimal, without a leading zero
abbrev pub IsSpelled : Command → List (List ℕ) → Type 0
IsSpelled Refusal words = words ≡ codes "refusal" ∷ []
IsSpelled (Verify base) words = words ≡ codes "verify" ∷ decimal base ∷ []
IsSpelled (Disassemble base) words = words ≡ codes "disassemble" ∷ decimal base ∷ []
IsSpelled (Assemble base) words = words ≡ codes "assemble" ∷ decimal base ∷ []
IsSpelled (Listing base) words = words ≡ codes "list" ∷ decimal base ∷ []
IsSpelled Object words = (words ≡ codes "object" ∷ []) ⊎ (words ≡ codes "object" ∷ object_name words ∷ [])
IsSpelled Objects words = words ≡ codes "objects" ∷ []

-- the numbers of the command lie in their ranges
abbrev pub IsInRange : Command → Type 0
IsInRange Refusal = Unit {0}
IsInRange (Verify base) = base < 2 ^ 64
IsInRange (Disassemble base) = base < 2 ^ 64
IsInRange (Assemble base) = base < 2 ^ 64
IsInRange (Listing base) = base < 2 ^ 64
IsInRange Object = Unit {0}
IsInRange Objects = Unit {0}

-- these words are this command
pub record IsForm (words : List (List ℕ)) (command : Command) : Type 0 where
  pub spelled : IsSpelled command words
  pub range : IsInRange command

-- these words are no command
abbrev pub IsNoForm : List (List ℕ) → Type 0
IsNoForm words = (command : Command) → IsForm words command → ⊥
