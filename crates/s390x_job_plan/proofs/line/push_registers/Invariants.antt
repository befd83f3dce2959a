use Rattle.std.proofs.Common.{◌≡◌, ◌++◌, drop}
use Rattle.s390x_job_fields.specs.Lists.{elements}
use Rattle.s390x_job_plan.specs.Lines.{step_register_of}
use Rattle.s390x_job_plan.proofs.line.push_registers.Given as goal

abbrev pub invariant-loop-i : goal.invariant-loop-i
invariant-loop-i l = l.regs.items ++ elements step_register_of (drop l.i l.s) ≡ l.initial.regs.items ++ elements step_register_of l.s
