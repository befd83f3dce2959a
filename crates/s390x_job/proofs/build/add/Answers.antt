use Rattle.std.proofs.Common.{◌++◌, ◌∷◌, [], length, ap, ◌∙◌}
use Rattle.s390x_job_lines.specs.Instructions.{inst_line}
use Rattle.s390x_job.specs.Grammar.{next_place, Within}
use Rattle.s390x_job.specs.Items.{block_line}
use Rattle.s390x_job.specs.Jobs.{insts_lines, blocks_lines}
use Rattle.s390x_job.specs.Builds.{open_lines, beginning_lines}
use Rattle.s390x_job.proofs.Builds.{at_end, one_more}
use Rattle.s390x_job.proofs.build.add.Goals as goal

pub returns : goal.returns
returns c =
    let b = c.args.b.now in
    let ss = beginning_lines b.beginning in
    let bs = blocks_lines b.blocks.items in
    let fs = open_lines b.loops.items in
    record {
      state = c.requires.full;
      lines = ap (λ t. ss ++ (bs ++ (block_line ∷ (fs ++ insts_lines t)))) c.push_reserved.ensures.items
          ∙ ap (λ t. ss ++ (bs ++ (block_line ∷ (fs ++ t)))) (one_more b.here.items c.args.x c.requires.one)
          ∙ at_end ss bs fs (insts_lines b.here.items) (inst_line c.args.x ∷ []);
      place = ap (next_place (Within (length b.loops.items))) c.requires.one;
    }
