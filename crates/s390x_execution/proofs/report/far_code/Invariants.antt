use Rattle.std.proofs.Common.{◌≡◌, ◌≤◌, ℕ, drop}
use Rattle.s390x_typed_steps.specs.Traps.{first_code}
use Rattle.s390x_execution.proofs.report.far_code.Given as goal

-- no entry so far is past the offset
abbrev pub invariant-loop-entry : goal.invariant-loop-entry
invariant-loop-entry l = (later : ℕ) → l.offset ≤ later → first_code (drop l.entry-index l.entries) later ≡ first_code l.entries later
