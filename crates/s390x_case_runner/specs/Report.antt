-- What a report says of the cases that were judged.

use Rattle.std.specs.Prelude.{ℕ, Bool, not, List, [], ◌∷◌, Option, Some, None, filter, map, take}
use Rattle.s390x_case_runner.specs.declared.judge.Verdict.{Verdict}

-- the case isn't as the lines tell
abbrev pub differs : Verdict → Bool
differs verdict = not verdict.is_met

abbrev pub line_of : Verdict → ℕ
line_of verdict = verdict.line

-- the lines at which the cases that differ begin, at most so many
abbrev pub first_lines : ℕ → List Verdict → List ℕ
first_lines most verdicts = take most (map line_of (filter differs verdicts))

-- the verdict that a line gives, if it gives one
abbrev pub verdicts_of : Option Verdict → List Verdict
verdicts_of (Some verdict) = verdict ∷ []
verdicts_of None = []
