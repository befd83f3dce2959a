use Rattle.std.proofs.Common.{arith}
use Rattle.s390x_bundle.proofs.Naming.{has_member}
use Rattle.s390x_bundle.proofs.names.name_set.Goals as goal

pub loop-member-preserved : goal.loop-member-preserved
loop-member-preserved c =
    has_member c.loop-member.names c.insert.new.self c.args.members.now c.loop-member.member-index c.member-item.result (omega arith) c.member-item.is c.in_ok-insert.ensures.updates c.loop-member.invariant
