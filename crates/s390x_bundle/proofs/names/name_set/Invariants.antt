use Rattle.std.proofs.Common.{take}
use Rattle.s390x_bundle.specs.Names.{HasNames, names_of}
use Rattle.s390x_bundle.proofs.names.name_set.Given as goal

abbrev pub invariant-loop-member : goal.invariant-loop-member
invariant-loop-member l = HasNames l.names (names_of (take l.member-index l.members))
