use Rattle.std.proofs.Common.{◌≡◌, drop, take}
use Rattle.s390x_bundle.specs.Emitted.{first_refused}
use Rattle.s390x_binary_tool.specs.Objects.{AreObjectMembers}
use Rattle.s390x_binary_tool.proofs.functions.emit_members.Given as goal

abbrev pub invariant-loop-member : goal.invariant-loop-member
invariant-loop-member l = record {
  first : first_refused (drop l.member-index l.members) ≡ first_refused l.members;
  are : AreObjectMembers (take l.member-index l.members) l.objects.items;
}
