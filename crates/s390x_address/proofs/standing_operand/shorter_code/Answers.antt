use Rattle.std.proofs.Common.{IfSome, sym, subst}
use Rattle.s390x_base.specs.Regs.{number_of}
use Rattle.s390x_inst.specs.declared.args.MemArg.TheVariants.{BXD12}
use Rattle.s390x_typed_steps.specs.Memory.{RxForm}
use Rattle.s390x_address.specs.Lowerings.{IsPlain}
use Rattle.s390x_address.proofs.Standing.{short_standing}
use Rattle.s390x_address.proofs.standing_operand.shorter_code.Goals as goal

pub returns-in-Some : goal.returns-in-Some
returns-in-Some c = λ ril_opcode accesses operands_valid reads_scratch flags. short_standing c.rx_code.result c.args.register c.args.base c.args.index c.args.short_opcode c.args.long_opcode ril_opcode c.in-Some.opcode c.args.disp flags accesses operands_valid reads_scratch c.in-Some.is c.rx_code.ensures

pub returns-in-None : goal.returns-in-None
returns-in-None c = λ ril_opcode accesses operands_valid reads_scratch flags.
    subst (λ o. IfSome c.widened_code.result (λ code. IsPlain (record { form = RxForm (number_of c.args.register) o c.args.long_opcode ril_opcode; operand = BXD12 c.args.base c.args.index c.args.disp flags; accesses = accesses; operands_valid = operands_valid; reads_scratch = reads_scratch }) code)) (sym c.in-None.is)
    (c.widened_code.ensures ril_opcode accesses operands_valid reads_scratch flags)
