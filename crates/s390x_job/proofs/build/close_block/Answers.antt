use Rattle.std.proofs.Common.{◌++◌, ◌∷◌, ap, ◌∙◌}
use Rattle.s390x_job.specs.Items.{block_line, end_line}
use Rattle.s390x_job.specs.Jobs.{blocks_lines}
use Rattle.s390x_job.specs.Builds.{beginning_lines}
use Rattle.s390x_job.proofs.Builds.{shut_lines, none_open, to_block, to_end}
use Rattle.s390x_job.proofs.build.close_block.Goals as goal

pub returns-clause-more : goal.returns-clause-more
returns-clause-more c =
    let b = c.args.b.now in
    let ss = beginning_lines b.beginning in
    let r = c.in_ok-insts in
    let none = none_open b.loops.items c.take_insts.new.insts c.requires.none r.ensures.left in
    record {
      state = c.requires.full;
      lines = ap (λ t. ss ++ (blocks_lines c.push.new.self.items ++ (block_line ∷ t))) none
          ∙ shut_lines ss b.blocks.items c.push.new.self.items b.loops.items b.here r.insts block_line c.requires.none r.ensures.taken c.in_ok-push.ensures.items;
      place = to_block b.loops.items c.requires.none;
    }

pub returns-clause-done : goal.returns-clause-done
returns-clause-done c =
    let b = c.args.b.now in
    let r = c.in_ok-insts in
    record {
      state = c.requires.full;
      lines = shut_lines (beginning_lines b.beginning) b.blocks.items c.push.new.self.items b.loops.items b.here r.insts end_line c.requires.none r.ensures.taken c.in_ok-push.ensures.items;
      place = to_end b.loops.items c.requires.none;
    }
