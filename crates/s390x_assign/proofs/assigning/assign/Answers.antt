-- What the instruction reports follows from its portions.
use Rattle.std.proofs.Common.{sym, ap}
use Rattle.s390x_assign.proofs.Replaced.{operands_replaced}
use Rattle.s390x_assign.proofs.assigning.assign.Goals as goal

pub returns-in-Ok-assign_inst-clause-operands : goal.returns-in-Ok-assign_inst-clause-operands
returns-in-Ok-assign_inst-clause-operands c = operands_replaced c.args.inst.now c.in-Ok-assign_inst.assigned c.args.regs.now (sym (ap (λ p. p.0) c.in-Ok-assign_inst.ensures))
