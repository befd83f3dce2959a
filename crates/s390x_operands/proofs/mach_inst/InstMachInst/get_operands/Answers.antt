use Rattle.s390x_operands.proofs.Public.{told, prefix, kept, cause}
use Rattle.s390x_operands.proofs.mach_inst.InstMachInst.get_operands.Goals as goal

pub returns-clause-list : goal.returns-clause-list
returns-clause-list g c = told _ _ _ _ _ _ c.report_inst.result c.report_inst.ensures

pub returns-clause-prefix : goal.returns-clause-prefix
returns-clause-prefix g c = prefix _ _ _ _ _ _ c.report_inst.result c.report_inst.ensures

pub returns-clause-cause : goal.returns-clause-cause
returns-clause-cause g c = cause c.args.self.now _ _ _ _ c.report_inst.result c.report_inst.ensures

pub returns-clause-denies : goal.returns-clause-denies
returns-clause-denies g c = kept _ _ _ _ _ _ c.report_inst.result c.report_inst.ensures
