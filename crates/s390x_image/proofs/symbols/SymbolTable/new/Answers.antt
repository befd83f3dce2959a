use Rattle.std.proofs.Common.{ℕ, List, ap, ◌∙◌}
use Rattle.std.specs.Ordering.{nat_cmp}
use Rattle.std.specs.FinMap.{from_entries}
use Rattle.s390x_image.specs.Symbols.{address_of, address_of-no_symbols}
use Rattle.s390x_image.proofs.symbols.SymbolTable.new.Goals as goal

pub returns-clause-absent : goal.returns-clause-absent
returns-clause-absent c = λ name. ap (λ (es : List (ℕ × ℕ)). address_of (from_entries {R = nat_cmp} es) name) c.new.ensures.empty ∙ address_of-no_symbols name
