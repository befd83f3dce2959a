-- Inputs with code that the top call accepts: a job and a function that return at once, and such a job with its plan.
use Rattle.std.specs.Prelude.{◌≡◌, ℕ, ◌+◌, ◌%◌, ◌^◌, ◌≤◌, List, [], ◌∷◌, codes}
use Rattle.s390x_tool.specs.declared.words.JobCommand.{JobCommand}
use Rattle.s390x_tool.specs.declared.words.JobCommand.TheVariants.{Image, Run}

-- a job that returns at once
abbrev pub one_job : List (List ℕ)
one_job = codes "block" ∷ codes "Ret %r14" ∷ codes "end" ∷ []

-- where the command links, its base is a multiple of 4 and has room for two bytes below 2^64
abbrev pub HasRoom : JobCommand → Type 0
HasRoom (Image base) = (base % 4 ≡ 0) × (base + 2 ≤ 2 ^ 64)
HasRoom (Run base steps) = (base % 4 ≡ 0) × (base + 2 ≤ 2 ^ 64)
HasRoom command = Unit {0}

-- a function that returns at once
abbrev pub one_function : List (List ℕ)
one_function = codes "function u1" ∷ codes "block" ∷ codes "Ret %r14" ∷ codes "end" ∷ codes "close" ∷ []

-- a job that returns at once, and a plan whose one edit is that instruction
abbrev pub one_step : List (List ℕ)
one_step = codes "block" ∷ codes "Ret %r14" ∷ codes "end" ∷ codes "plan" ∷ codes "block" ∷ codes "step []" ∷ codes "close" ∷ []
