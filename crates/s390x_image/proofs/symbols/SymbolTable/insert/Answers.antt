use Rattle.std.proofs.Common.{ap, ◌∙◌}
use Rattle.std.specs.Ordering.{nat_cmp}
use Rattle.std.specs.FinMap.{from_entries}
use Rattle.s390x_image.specs.Symbols.{Symbols, address_of, address_of-with_address}
use Rattle.s390x_image.proofs.Tables.{table_with}
use Rattle.s390x_image.proofs.symbols.SymbolTable.insert.Goals as goal
use Rattle.s390x_image.proofs.symbols.SymbolTable.insert.Goals.{in-Ok, in-Err}

pub returns-clause-table : goal.returns-clause-table
returns-clause-table c =
    elim c.match-insert.branch [
      | in-Ok w ↦ rw w.result-is (table_with c.self.inside.addresses.entries c.insert.new.self.entries c.args.self.now c.args.name c.args.address c.self.view_is w.in-Ok.ensures.updates.0)
      | in-Err w ↦ rw w.result-is (ap (from_entries {R = nat_cmp}) w.in-Err.ensures.err ∙ c.self.view_is)
    ]

pub returns-clause-addresses : goal.returns-clause-addresses
returns-clause-addresses c =
    elim c.match-insert.branch [
      | in-Ok w ↦
          rw w.result-is
          (λ other.
          ap (λ (m : Symbols). address_of m other) (table_with c.self.inside.addresses.entries c.insert.new.self.entries c.args.self.now c.args.name c.args.address c.self.view_is w.in-Ok.ensures.updates.0)
          ∙ address_of-with_address c.args.self.now c.args.name c.args.address other)
      | in-Err w ↦ rw w.result-is tt
    ]
