-- The line that a syntax error names, by completions.
use Rattle.std.specs.Prelude.{◌≡◌, ℕ, zero, suc, ◌+◌, ◌-◌, ◌<◌, ◌≤◌, ◌⊎◌, Bool, false, List, [], ◌∷◌, ◌++◌, take, length, codes, if◌then◌else◌, ◌==◌}
use Rattle.std.specs.Str.{bytes_eq}
use Rattle.s390x_job.specs.Jobs.{text_of_job, IsJob}
use Rattle.s390x_job.specs.declared.job.Job.{Job}

-- a text that is read has fewer bytes, so that each line's number, from 1, is below 2 ^ 32
abbrev pub text_limit : ℕ
text_limit = 4294967295

-- the lines of a text that end with a line feed; w is what the first one begins with
abbrev pub pieces_from : List ℕ → List ℕ → List (List ℕ)
pieces_from w [] = []
pieces_from w (x ∷ s) = if x == 10 then w ∷ pieces_from [] s else pieces_from (w ++ x ∷ []) s

-- the lines of a text, without what stands behind the last line feed
abbrev pub pieces : List ℕ → List (List ℕ)
pieces s = pieces_from [] s

-- the text of lines, each with its line feed
abbrev pub text_of_lines : List (List ℕ) → List ℕ
text_of_lines [] = []
text_of_lines (w ∷ ws) = w ++ (10 ∷ text_of_lines ws)

-- how many lines begin with `Loop `
abbrev pub opens : List (List ℕ) → ℕ
opens [] = 0
opens (w ∷ ws) = if bytes_eq (take 5 w) (codes "Loop ") then opens ws + 1 else opens ws

-- how many lines are `endloop`
abbrev pub closes : List (List ℕ) → ℕ
closes [] = 0
closes (w ∷ ws) = if bytes_eq w (codes "endloop") then closes ws + 1 else closes ws

-- whether the last line is `end`
abbrev pub ends_job : Bool → List (List ℕ) → Bool
ends_job b [] = b
ends_job b (w ∷ ws) = ends_job (bytes_eq w (codes "end")) ws

-- so many lines `endloop`, and a line `end`
abbrev pub closing : ℕ → List ℕ
closing zero = codes "end" ++ 10 ∷ []
closing (suc n) = codes "endloop" ++ (10 ∷ closing n)

-- the text that these lines lack: none behind a line `end`; else an `endloop` for each loop that is open, and `end`
abbrev pub ending : List (List ℕ) → List ℕ
ending ws = if ends_job false ws then [] else closing (opens ws - closes ws)

-- the text of lines, completed
abbrev pub completion : List (List ℕ) → List ℕ
completion ws = text_of_lines ws ++ ending ws

-- the bytes are the text of a job
abbrev pub IsText : List ℕ → Type 0
IsText s = (j : Job) × IsJob j × (text_of_job j ≡ s)

-- the number of the line: 1 plus the greatest k that is 0 or for which the first k lines can be completed
pub record IsFirstWrongLine (CanBeCompleted : List (List ℕ) → Type 0) (ws : List (List ℕ)) (n : ℕ) : Type 0 where
  pub k : ℕ
  pub is : n ≡ k + 1
  pub small : k ≤ length ws
  pub here : (k ≡ 0) ⊎ CanBeCompleted (take k ws)
  pub above : (m : ℕ) → k < m → m ≤ length ws → CanBeCompleted (take m ws) → ⊥

-- the bytes are no whole text, and no completion of more than k of their lines is one
pub record IsStuck (IsWhole : List ℕ → Type 0) (completed : List (List ℕ) → List ℕ) (bytes : List ℕ) (k : ℕ) : Type 0 where
  pub small : k ≤ length (pieces bytes)
  pub none : IsWhole bytes → ⊥
  pub above : (m : ℕ) → k < m → m ≤ length (pieces bytes) → IsWhole (completed (take m (pieces bytes))) → ⊥

-- the first line of a job's text that is wrong
abbrev pub IsFirstWrong : List (List ℕ) → ℕ → Type 0
IsFirstWrong ws n = IsFirstWrongLine (λ vs. IsText (completion vs)) ws n
