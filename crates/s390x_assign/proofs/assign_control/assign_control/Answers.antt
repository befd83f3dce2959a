use Rattle.s390x_assign.proofs.Described.{copied}
use Rattle.s390x_assign.proofs.assign_control.assign_control.Goals as goal

pub returns-in-Ok : goal.returns-in-Ok
returns-in-Ok c = copied c.args.inst.now c.in-Ok.copied c.args.registers.now.left.now c.in-Ok.ensures c.in_default.not-IndirectBr c.in_default.not-JTSequence c.in_default.not-Call c.in_default.not-ReturnCall c.in_default.not-Args c.in_default.not-Rets
