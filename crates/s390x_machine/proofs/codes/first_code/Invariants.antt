use Rattle.std.proofs.Common.{◌≡◌, drop}
use Rattle.s390x_typed_steps.specs.Traps.{first_code}
use Rattle.s390x_machine.proofs.codes.first_code.Given as goal

abbrev pub invariant-loop-entry : goal.invariant-loop-entry
invariant-loop-entry l = first_code (drop l.entry-index l.entries) l.offset ≡ first_code l.entries l.offset
