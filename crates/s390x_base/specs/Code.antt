-- How many bytes an instruction has.
use Rattle.std.specs.Prelude.{ℕ, Bool, ◌||◌, ◌==◌}

-- an instruction has 2, 4 or 6 bytes
abbrev pub is_code_length : ℕ → Bool
is_code_length n = (n == 2) || (n == 4) || (n == 6)
