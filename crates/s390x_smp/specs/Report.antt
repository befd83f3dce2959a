-- What is told of a simulation.
use Rattle.std.specs.Prelude.{◌≡◌, ℕ, ◌+◌, List, [], ◌∷◌, ◌++◌, codes}
use Rattle.std.specs.Fmt.{decimal}
use Rattle.s390x_smp.specs.Simulation.{IsStart, Simulation, word_of}
use Rattle.s390x_smp.specs.Stores.{RunsAs}
use Rattle.s390x_smp.specs.Drawn.{addends_to, drawn_numbers}

-- `word V`
abbrev pub word_line : ℕ → List ℕ
word_line word = codes "word " ++ (decimal word ++ 10 ∷ [])

-- `cpu I stores S`
abbrev pub count_line : (number count : ℕ) → List ℕ
count_line number count = codes "cpu " ++ (decimal number ++ (codes " stores " ++ (decimal count ++ 10 ∷ [])))

-- a line for each count, from a processor's number on
abbrev pub count_lines : ℕ → List ℕ → List ℕ
count_lines number [] = []
count_lines number (count ∷ counts) = count_line number count ++ count_lines (number + 1) counts

-- The text is that of the word and the counts after the drawn steps from the start, where processor I has the addend I + 1
pub record IsSimulated (base word count steps start : ℕ) (text : List ℕ) : Type 0 where
  pub first : Simulation
  pub last : Simulation
  pub starts : IsStart base word (addends_to 0 count) first
  pub runs : RunsAs first (drawn_numbers count steps start) last
  pub spelled : text ≡ word_line (word_of last) ++ count_lines 0 last.stores
