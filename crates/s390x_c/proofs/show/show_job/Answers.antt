use Rattle.s390x_c.proofs.Showing.{all_told}
use Rattle.s390x_c.proofs.show.show_job.Goals as goal

pub put_texts-requires : goal.put_texts-requires
put_texts-requires c = all_told c.valid_blocks_have_texts.ensures.in_order c.args.job.now c.in-Ok.ensures.0
