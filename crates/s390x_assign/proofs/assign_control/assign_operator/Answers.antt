use Rattle.std.proofs.Common.{sym, ◌∙◌}
use Rattle.s390x_assign.proofs.Described.{carried, given_again, not_described}
use Rattle.s390x_assign.proofs.assign_control.assign_operator.Goals as goal

pub returns-in-Some : goal.returns-in-Some
returns-in-Some c = given_again c.args.inst.now c.in-Some.assigned c.args.registers.now.left.now c.replace.new.r.left.now (sym c.replace.ensures.value ∙ c.in-Some.is) c.replace.ensures.after

pub returns-in-None : goal.returns-in-None
returns-in-None c = carried _ _ c.assign_control.result c.assign_control.new.registers.left.now (not_described c.args.inst.now c.args.registers.now.left.now c.replace.new.r.left.now (sym c.replace.ensures.value ∙ c.in-None.is) c.replace.ensures.after) c.assign_control.ensures
