-- Immediates as their fields hold them.
use Rattle.std.specs.Prelude.{ℕ, suc, ◌-◌, ℤ, pos, negsuc}

-- a signed displacement modulo 2 ^ 20
abbrev pub field20 : ℤ → ℕ
field20 (pos n) = n
field20 (negsuc n) = 1048575 - n
