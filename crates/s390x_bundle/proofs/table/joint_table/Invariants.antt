use Rattle.std.proofs.Common.{◌≡◌, drop}
use Rattle.s390x_bundle.specs.Table.{joint_symbols, with_members}
use Rattle.s390x_bundle.proofs.table.joint_table.Given as goal

abbrev pub invariant-loop-number : goal.invariant-loop-number
invariant-loop-number l = with_members l.base l.table (drop l.number l.members) (drop l.number l.starts) ≡ joint_symbols l.base l.members l.starts
