use Rattle.std.proofs.Common.{slice_index}
use Rattle.s390x_page.proofs.TwoHalves.{everywhere}
use Rattle.s390x_page.proofs.registers.machine_of.Goals as goal

pub returns-clause-registers : goal.returns-clause-registers
returns-clause-registers c = λ j. record {
  general = λ i. slice_index c.args.registers.now.general i;
  vector = λ i. everywhere c.numbers_of_halves.result c.args.registers.now.high c.args.registers.now.low c.numbers_of_halves.ensures.long c.numbers_of_halves.ensures.halves.0 c.numbers_of_halves.ensures.halves.1 c.numbers_of_halves.ensures.each i j;
  access = λ i. slice_index c.args.registers.now.access i;
  code = c.code.ensures.same j;
}
