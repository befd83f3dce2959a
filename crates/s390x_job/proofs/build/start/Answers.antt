use Rattle.s390x_job.proofs.Beginnings.{start_state, start_lines_none}
use Rattle.s390x_job.proofs.build.start.Goals as goal

pub returns-clause-state : goal.returns-clause-state
returns-clause-state c = record {
  beginning = start_state c.new.result c.new-2.result c.new-3.result c.new.ensures.items c.new-2.ensures.items c.new-3.ensures.items;
  no_blocks = c.new-4.ensures.items;
  no_loops = c.new-5.ensures.items;
  none_here = c.new-6.ensures.items;
}

pub returns-clause-lines : goal.returns-clause-lines
returns-clause-lines c = start_lines_none c.new.result c.new-2.result c.new-3.result c.new.ensures.items c.new-2.ensures.items c.new-3.ensures.items
