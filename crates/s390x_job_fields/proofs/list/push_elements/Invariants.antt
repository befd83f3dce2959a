use Rattle.std.proofs.Common.{◌≡◌, ◌++◌, drop}
use Rattle.s390x_job_fields.specs.Lists.{elements}
use Rattle.s390x_job_fields.proofs.list.push_elements.Given as goal

abbrev pub invariant-loop-i : goal.invariant-loop-i
invariant-loop-i g l =
    l.v.items ++ elements g.T.Element.reading (drop l.i l.s) ≡ l.initial.v.items ++ elements g.T.Element.reading l.s
