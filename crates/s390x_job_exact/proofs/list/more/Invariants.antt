use Rattle.std.proofs.Common.{◌≡◌, ◌++◌, ◌<◌, length}
use Rattle.s390x_job_fields.specs.Lists.{AllItems, open_text}
use Rattle.s390x_job_exact.proofs.list.more.Given as goal

abbrev pub invariant-loop-cursor : goal.invariant-loop-cursor
invariant-loop-cursor g l = record {
  some : 0 < length l.items.items;
  range : AllItems g.T.ExactElement.IsIn l.items.items;
  taken : open_text g.T.ExactElement.spelling l.initial.items.items ++ l.initial.cursor ≡ open_text g.T.ExactElement.spelling l.items.items ++ l.cursor;
}

abbrev pub decreases-loop-cursor : goal.decreases-loop-cursor
decreases-loop-cursor g l = length l.cursor
