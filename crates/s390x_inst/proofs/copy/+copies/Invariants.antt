use Rattle.std.proofs.Common.{◌≡◌, ◌++◌, drop}
use Rattle.s390x_inst.specs.Portions.{members_portions}
use Rattle.s390x_inst.proofs.copy.+copies.Given as goal

abbrev pub invariant-copy_members-loop-inst : goal.invariant-copy_members-loop-inst
invariant-copy_members-loop-inst l = members_portions l.body.items ++ members_portions (drop l.inst-index l.insts) ≡ members_portions l.insts
