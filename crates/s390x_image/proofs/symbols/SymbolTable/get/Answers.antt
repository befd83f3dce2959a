use Rattle.std.proofs.Common.{ap, sym, ◌∙◌}
use Rattle.s390x_image.specs.Symbols.{Symbols, address_of}
use Rattle.s390x_image.proofs.Tables.{found}
use Rattle.s390x_image.proofs.symbols.SymbolTable.get.Goals as goal

pub returns : goal.returns
returns c =
    c.copied.ensures
    ∙ c.get.ensures.value
    ∙ sym (found c.self.inside.addresses.entries c.args.name.0)
    ∙ ap (λ (m : Symbols). address_of m c.args.name) c.self.view_is
