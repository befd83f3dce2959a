use Rattle.s390x_listing.specs.Listings.{block_head}
use Rattle.s390x_listing.specs.Texts.{inst_texts}
use Rattle.s390x_listing.proofs.Shown.{behind_head}
use Rattle.s390x_listing.proofs.texts.put_block.Goals as goal

pub returns-in-Ok : goal.returns-in-Ok
returns-in-Ok c =
    behind_head c.put_insts.result _ (block_head c.args.number) _ _ (inst_texts c.args.info.now.isa_flags c.args.state c.args.block.now.insts.items) c.in-Ok.ensures (rw c.deref.ensures.value at c.put_insts.ensures)
