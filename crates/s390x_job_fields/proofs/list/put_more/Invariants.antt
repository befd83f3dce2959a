use Rattle.std.proofs.Common.{◌≡◌, ◌++◌, drop, string_bytes}
use Rattle.s390x_job_fields.specs.Lists.{more_text}
use Rattle.s390x_job_fields.proofs.list.put_more.Given as goal

abbrev pub invariant-loop-x : goal.invariant-loop-x
invariant-loop-x g l =
    string_bytes l.out ++ more_text g.T.Element.spelling (drop l.x-index l.xs) ≡ string_bytes l.initial.out ++ more_text g.T.Element.spelling l.xs
