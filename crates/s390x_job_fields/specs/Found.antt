-- A table of values and their names.
use Rattle.std.specs.Prelude.{ℕ, List, [], ◌∷◌, if◌then◌else◌, map, get_or}
use Rattle.std.specs.Borrow.{Bor}
use Rattle.std.specs.Str.{bytes_eq}

-- the rows of a table that is a constant
abbrev pub rows : {A : Type 0} → List (A × record { now : List ℕ }) → List (A × List ℕ)
rows table = map (λ row. (row.0, row.1.now)) table

-- the rows of a table that is passed
abbrev pub rows_of : {A : Type 0} → List (A × Bor (List ℕ)) → List (A × List ℕ)
rows_of table = map (λ row. (row.0, row.1.now)) table

-- the first value of this name; where none has it, the other one
abbrev pub found_by_name : {A : Type 0} → List (A × List ℕ) → List ℕ → A → A
found_by_name [] w other = other
found_by_name (row ∷ more) w other = if bytes_eq row.1 w then row.0 else found_by_name more w other

-- the name in the n-th row
abbrev pub name_at : {A : Type 0} → List (A × List ℕ) → ℕ → List ℕ
name_at table n = get_or (map (λ row. row.1) table) n []
