use Rattle.std.proofs.Common.{◌≡◌, [], drop, take}
use Rattle.s390x_bundle.specs.Names.{HasNames, first_duplicate, names_of}
use Rattle.s390x_bundle.proofs.names.duplicate_name.Given as goal

abbrev pub invariant-loop-member : goal.invariant-loop-member
invariant-loop-member l = record {
  seen : HasNames l.earlier (names_of (take l.member-index l.members));
  rest : first_duplicate (names_of l.members) (names_of (take l.member-index l.members)) (drop l.member-index l.members) ≡ first_duplicate (names_of l.members) [] l.members;
}
