use Rattle.s390x_listing.specs.Listings.{block_head, each}
use Rattle.s390x_listing.specs.Operands.{operands_line}
use Rattle.s390x_listing.proofs.Listing.{behind_head}
use Rattle.s390x_listing.proofs.operands.put_block.Goals as goal

pub returns-in-Ok : goal.returns-in-Ok
returns-in-Ok c =
    behind_head c.put_insts.result _ (block_head c.args.number) _ _ (each (λ n i. operands_line i) 0 c.args.block.now.insts.items) c.in-Ok.ensures (rw c.deref.ensures.value at c.put_insts.ensures)
