-- The names of members, and which one of them comes twice.
use Rattle.std.specs.Prelude.{◌≡◌, ℕ, List, [], ◌∷◌, ◌++◌, map, Option, Some, None, Bool, false, cond, ◌||◌, nat_eq}
use Rattle.std.specs.BTreeSet.{BTreeSet, contains}
use Rattle.std.specs.Ordering.{nat_cmp}
use Rattle.s390x_base.specs.declared.ir.ExternalName.{ExternalName}
use Rattle.s390x_job.specs.declared.job.SymbolLine.{SymbolLine}
use Rattle.s390x_bundle.specs.declared.member.Member.{Member}

-- the name is one of these
abbrev pub is_among : List ExternalName → ExternalName → Bool
is_among [] name = false
is_among (x ∷ xs) name = nat_eq x.0 name.0 || is_among xs name

abbrev pub names_of : List Member → List ExternalName
names_of members = map (λ (m : Member). m.name) members

-- the first one of these lines that names a member
abbrev pub line_among : List ExternalName → List SymbolLine → Option ExternalName
line_among names [] = None
line_among names (line ∷ lines) = cond (is_among names line.name) (Some line.name) (line_among names lines)

-- the name of a member that an earlier one has too, or else that of its first line that names a member
abbrev pub duplicate_in : (names earlier : List ExternalName) → Member → Option ExternalName
duplicate_in names earlier m = cond (is_among earlier m.name) (Some m.name) (line_among names m.symbols.items)

-- this name, or else a later one
abbrev pub name_or : Option ExternalName → Option ExternalName → Option ExternalName
name_or None later = later
name_or (Some name) later = Some name

-- the first one of these members that has such a name
abbrev pub first_duplicate : (names earlier : List ExternalName) → List Member → Option ExternalName
first_duplicate names earlier [] = None
first_duplicate names earlier (m ∷ ms) = name_or (duplicate_in names earlier m) (first_duplicate names (earlier ++ m.name ∷ []) ms)

-- the set has the numbers of these names alone
abbrev pub HasNames : BTreeSet ℕ → List ExternalName → Type 0
HasNames set names = (name : ExternalName) → contains nat_cmp set name.0 ≡ is_among names name
