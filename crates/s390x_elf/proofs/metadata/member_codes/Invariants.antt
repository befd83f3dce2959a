use Rattle.std.proofs.Common.{◌≡◌, ◌++◌, drop, map}
use Rattle.s390x_elf.specs.Metadata.{member_codes}
use Rattle.s390x_elf.specs.TableBytes.{code_of}
use Rattle.s390x_elf.proofs.metadata.member_codes.Given as goal

-- what is left leads to what all members lead to
abbrev pub invariant-loop-member : goal.invariant-loop-member
invariant-loop-member l = map code_of l.codes.items ++ member_codes (drop l.member-index l.members) ≡ member_codes l.members
