use Rattle.std.proofs.Common.{◌≡◌, drop}
use Rattle.s390x_elf.specs.Causes.{given_cause}
use Rattle.s390x_elf.proofs.object_file.check_given.Given as goal

-- what is left leads to what all lead to
abbrev pub invariant-loop-given : goal.invariant-loop-given
invariant-loop-given l = given_cause (drop l.given-index l.names) ≡ given_cause l.names
