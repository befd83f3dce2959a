use Rattle.std.proofs.Common.{◌∙◌}
use Rattle.s390x_tool.proofs.Bundling.{answer_of_bundle}
use Rattle.s390x_tool.proofs.bundle_command.image_of_functions.Goals as goal

pub returns-in-Ok-bundle : goal.returns-in-Ok-bundle
returns-in-Ok-bundle c =
    answer_of_bundle c.args.base c.args.input.items _ _ c.args.functions.items c.deref.result.now c.in-Ok-bundle.bundle c.requires (c.deref.ensures.value ∙ c.in-Ok.ensures) c.in-Ok-bundle.ensures.image
    (rw c.deref-in-Ok-bundle.ensures.value at c.in_hex.ensures)
