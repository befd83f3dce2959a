-- The names of symbols.
use Rattle.std.specs.Prelude.{◌∷◌, [], List, ℕ, cond, nat_eq, string_bytes}
use Rattle.std.specs.Fmt.{decimal}
use Rattle.s390x_base.specs.declared.ir.ExternalName.{ExternalName}
use Rattle.s390x_elf.specs.declared.names.GivenName.{GivenName}

-- what the symbols of code are called in an object
abbrev pub Naming : Type 0
Naming = ExternalName → List ℕ

-- the name of a symbol that is given none: `u7`
abbrev pub symbol_name : ExternalName → List ℕ
symbol_name name = 117 ∷ decimal name.0

-- a symbol's name where some are given: the first that is given to it
abbrev pub name_in : List GivenName → ExternalName → List ℕ
name_in [] symbol = symbol_name symbol
name_in (g ∷ gs) symbol = cond (nat_eq g.symbol.0 symbol.0) (string_bytes g.name) (name_in gs symbol)
