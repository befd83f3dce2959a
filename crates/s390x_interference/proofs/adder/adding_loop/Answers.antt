use Rattle.std.proofs.Common.{◌∙◌}
use Rattle.s390x_base.specs.Registers.{general}
use Rattle.s390x_base.specs.declared.regs.Reg.TheVariants.{Real}
use Rattle.s390x_inst.specs.declared.args.MemArg.TheVariants.{BXD12}
use Rattle.s390x_interference.proofs.Adding.{adding_is, adding_items}
use Rattle.s390x_interference.proofs.adder.adding_loop.Goals as goal

pub returns : goal.returns
returns c = λ e rest.
    let five = c.gpr-5.ensures in
    let flags = c.trusted.ensures in
    adding_is e c.from_mask.result c.in_ok-body.body rest c.from_mask.ensures
    (c.in_ok-body.ensures.items ∙ adding_items _ _ _ _ _ _ _ c.writable_gpr.ensures c.gpr.ensures c.gpr-2.ensures c.writable_gpr-2.ensures c.gpr-3.ensures c.gpr-4.ensures (c.reg.ensures ∙ (λ i. BXD12 (five i) (Real (general 0)) 0 (flags i))))
