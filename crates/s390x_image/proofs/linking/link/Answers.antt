use Rattle.std.proofs.Common.{◌≡◌, ℕ, List, ◌++◌, length, take, drop, get_or, ap, ◌∙◌, arith}
use Rattle.std.proofs.lemmas.Grind.{common_steps}
use Rattle.s390x_image.specs.Fields.{with_fields_filled}
use Rattle.s390x_image.proofs.Filled.{filled-outside}
use Rattle.s390x_image.proofs.linking.link.Goals as goal

pub returns-clause-others : goal.returns-clause-others
returns-clause-others c =
    let e : take c.extend_from_slice.new.self.len (c.fill_all.new.bytes ++ drop (length c.fill_all.new.bytes) c.extend_from_slice.new.self.items)
    ≡ with_fields_filled c.args.base c.args.symbols.now c.args.code.now.relocs.items c.args.code.now.bytes.items = grind (arith, common_steps) in
    λ k out. ap (λ (bytes : List ℕ). get_or bytes k 0) e ∙ filled-outside c.args.base c.args.symbols.now c.args.code.now.relocs.items c.args.code.now.bytes.items k c.requires out
