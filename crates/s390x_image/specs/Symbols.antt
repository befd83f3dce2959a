-- A table of symbols: the address of each name that was given one.
use Rattle.std.proofs.Common.{◌≡◌, ℕ, ap, ◌∙◌}
use Rattle.std.specs.Prelude.{Option, Some, None, cond, nat_eq}
use Rattle.std.specs.Ordering.{nat_cmp}
use Rattle.std.specs.Cmp.{nat_cmp_total, unsigned_tied}
use Rattle.std.specs.FinMap.{FinMap, empty, get, insert, get-empty, get-insert}
use Rattle.s390x_base.specs.declared.ir.ExternalName.{ExternalName}

-- the addresses of names, by the names' numbers
abbrev pub Symbols : Type 0
Symbols = FinMap nat_cmp ℕ

-- no name has an address
abbrev pub no_symbols : Symbols
no_symbols = empty

-- the address of a name, if it was given one
abbrev pub address_of : Symbols → ExternalName → Option ℕ
address_of table name = get table name.0

-- the table in which a name has an address, in place of an earlier one
abbrev pub with_address : Symbols → ExternalName → ℕ → Symbols
with_address table name address = insert table name.0 address

pub address_of-no_symbols : (name : ExternalName) → address_of no_symbols name ≡ None
address_of-no_symbols name = get-empty nat_cmp name.0

pub address_of-with_address : (table : Symbols) (name : ExternalName) (address : ℕ) (other : ExternalName) →
    address_of (with_address table name address) other ≡ cond (nat_eq other.0 name.0) (Some address) (address_of table other)
address_of-with_address table name address other =
    get-insert nat_cmp_total table name.0 address other.0
    ∙ ap (λ b. cond b (Some address) (address_of table other)) (unsigned_tied other.0 name.0)
