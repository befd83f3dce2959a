use Rattle.std.proofs.Common.{◌≡◌, ◌++◌, drop}
use Rattle.s390x_inst.specs.Portions.{members_portions}
use Rattle.s390x_assign.specs.Assignments.{assigned_portions}
use Rattle.s390x_assign.proofs.assigning.+members.Given as goal

abbrev pub invariant-assign_members-loop-inst : goal.invariant-assign_members-loop-inst
invariant-assign_members-loop-inst l = record {
  value : members_portions l.body.items ++ (assigned_portions (members_portions (drop l.inst-index l.insts)) l.registers.left.now).0 ≡ (assigned_portions (members_portions l.insts) l.initial.registers.left.now).0;
  left : (assigned_portions (members_portions (drop l.inst-index l.insts)) l.registers.left.now).1 ≡ (assigned_portions (members_portions l.insts) l.initial.registers.left.now).1;
}
