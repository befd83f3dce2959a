use Rattle.std.proofs.Common.{drop}
use Rattle.s390x_elf.proofs.Texts.{Leads}
use Rattle.s390x_elf.proofs.members.text_of_members.Given as goal

-- what is left leads to what all members lead to
abbrev pub invariant-loop-member : goal.invariant-loop-member
invariant-loop-member l = Leads l.members l.text l.end (drop l.member-index l.members)
