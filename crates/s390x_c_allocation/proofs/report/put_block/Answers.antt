use Rattle.s390x_c_allocation.proofs.report.put_block.Goals as goal

pub returns : goal.returns
returns c = rw c.deref.ensures.value at c.put_insts.ensures
