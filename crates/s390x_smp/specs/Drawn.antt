-- Schedules that are drawn, and the addends of a simulation.
use Rattle.std.specs.Prelude.{ℕ, zero, suc, ◌+◌, ◌*◌, ◌/◌, ◌%◌, List, [], ◌∷◌}

-- the next number of a linear congruential sequence modulo 2 ^ 32
abbrev pub next_number : ℕ → ℕ
next_number x = (x * 1664525 + 1013904223) % 4294967296

-- so many numbers below n, each from the next number behind x
abbrev pub drawn_numbers : (n steps x : ℕ) → List ℕ
drawn_numbers n zero x = []
drawn_numbers n (suc steps) x = (next_number x / 65536 % n) ∷ drawn_numbers n steps (next_number x)

-- so many numbers behind k
abbrev pub addends_to : (k count : ℕ) → List ℕ
addends_to k zero = []
addends_to k (suc count) = (k + 1) ∷ addends_to (k + 1) count
