use Rattle.s390x_smp.proofs.Starting.{started_image, started_word, Regions}
use Rattle.s390x_smp.proofs.smp.started_memory.Goals as goal

pub returns : goal.returns
returns c =
    let r : Regions c.args.base c.args.word c.new-memory.result c.add_region.new.self c.add_region-2.new.self = record {
      none = c.new-memory.ensures;
      word_held = c.in_ok-add_region.ensures.added;
      word_filled = c.in_ok-add_region.ensures.filled;
      code_held = c.in_ok-add_region-2.ensures.added;
      code_filled = c.in_ok-add_region-2.ensures.filled;
    } in (
      started_image c.args.base c.args.word c.new-memory.result c.add_region.new.self c.add_region-2.new.self r,
      started_word c.args.base c.args.word c.new-memory.result c.add_region.new.self c.add_region-2.new.self r c.requires c.ranges.word.fits,
    )
