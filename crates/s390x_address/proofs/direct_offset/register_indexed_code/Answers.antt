use Rattle.std.proofs.Common.{IfSome, sym, subst}
use Rattle.s390x_base.specs.Regs.{number_of}
use Rattle.s390x_typed_steps.specs.Memory.{RxForm}
use Rattle.s390x_address.specs.Lowerings.{IsIndexed}
use Rattle.s390x_address.proofs.Displacing.{short_indexed}
use Rattle.s390x_address.proofs.direct_offset.register_indexed_code.Goals as goal

pub returns-in-Some : goal.returns-in-Some
returns-in-Some c = λ ril_opcode accesses flags. short_indexed c.short_indexed_code.result c.args.register c.args.base c.args.short_opcode c.args.long_opcode ril_opcode c.in-Some.opcode flags accesses c.in-Some.is c.short_indexed_code.ensures

pub returns-in-None : goal.returns-in-None
returns-in-None c = λ ril_opcode accesses flags.
    subst (λ o. IfSome c.long_indexed_code.result (λ code. IsIndexed (RxForm (number_of c.args.register) o c.args.long_opcode ril_opcode) accesses c.args.base flags code)) (sym c.in-None.is) (c.long_indexed_code.ensures ril_opcode accesses flags)
