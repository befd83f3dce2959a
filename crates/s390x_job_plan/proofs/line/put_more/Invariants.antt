use Rattle.std.proofs.Common.{◌≡◌, ◌++◌, drop, string_bytes}
use Rattle.s390x_job_fields.specs.Atoms.{reg_text}
use Rattle.s390x_job_fields.specs.Lists.{more_text}
use Rattle.s390x_job_plan.proofs.line.put_more.Given as goal

abbrev pub invariant-loop-r : goal.invariant-loop-r
invariant-loop-r l = string_bytes l.out ++ more_text reg_text (drop l.r-index l.regs) ≡ string_bytes l.initial.out ++ more_text reg_text l.regs
