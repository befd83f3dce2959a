use Rattle.std.proofs.Common.{slice_index, sym}
use Rattle.s390x_operations.specs.Effects.{code_numbered}
use Rattle.s390x_page.proofs.TwoHalves.{everywhere, of_halves}
use Rattle.s390x_page.proofs.registers.registers_after.Goals as goal

pub returns-clause-registers : goal.returns-clause-registers
returns-clause-registers c =
    let v = c.args.machine.now.vregs in
    let high = c.high_halves.result in
    let low = c.low_halves.result in
    λ j. record {
      general = λ i. slice_index c.args.machine.now.regs i;
      vector = λ i. sym (everywhere v high low c.low_halves.ensures.numbers c.high_halves.ensures.long c.low_halves.ensures.long (of_halves v high low c.high_halves.ensures.each c.low_halves.ensures.each) i) j;
      access = λ i. slice_index c.args.machine.now.aregs i;
      code = code_numbered c.args.machine.now.cc;
    }
