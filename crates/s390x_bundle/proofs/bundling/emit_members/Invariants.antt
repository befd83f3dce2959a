use Rattle.std.proofs.Common.{◌≡◌, drop, take}
use Rattle.s390x_bundle.specs.Emitted.{AreEmitted, first_refused}
use Rattle.s390x_bundle.proofs.bundling.emit_members.Given as goal

abbrev pub invariant-loop-member : goal.invariant-loop-member
invariant-loop-member l = record {
  first : first_refused (drop l.member-index l.members) ≡ first_refused l.members;
  emitted : AreEmitted (take l.member-index l.members) l.codes.items;
}
