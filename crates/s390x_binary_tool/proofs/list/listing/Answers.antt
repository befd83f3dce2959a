use Rattle.std.proofs.Common.{string_bytes, subst, sym}
use Rattle.std.specs.Prelude.{IfOk, None, ◌≡◌, List}
use Rattle.s390x_inst.specs.declared.function.Block.{Block}
use Rattle.s390x_listing.specs.Texts.{texts_listing}
use Rattle.s390x_binary_tool.specs.CodeListing.{IsCodeListing}
use Rattle.s390x_tool.proofs.Showing.{all_told}
use Rattle.s390x_binary_tool.proofs.list.listing.Goals as goal

pub listed_code-requires : goal.listed_code-requires
listed_code-requires c =
    let told = all_told c.valid_blocks_have_texts.ensures.in_order c.args.job.now c.requires.code.valid in
    subst (λ (bs : List Block). (texts_listing c.args.job.now.info.isa_flags c.args.job.now.state bs).cause ≡ None) (sym c.deref.ensures.value) told

pub returns : goal.returns
returns c =
    let info = c.args.job.now.info.isa_flags in
    let at_image = subst (λ (bs : List Block). IfOk c.listed_code.result (λ text. IsCodeListing info c.args.job.now.state bs c.args.code.now c.args.image.now.base c.args.image.now.bytes.items (string_bytes text))) c.deref.ensures.value c.listed_code.ensures in
    subst (λ base. IfOk c.listed_code.result (λ text. IsCodeListing info c.args.job.now.state c.args.job.now.function.blocks.items c.args.code.now base c.args.image.now.bytes.items (string_bytes text))) c.requires.base at_image
