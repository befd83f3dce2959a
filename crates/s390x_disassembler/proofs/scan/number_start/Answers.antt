use Rattle.s390x_disassembler.specs.Numbers.{number_on}
use Rattle.s390x_disassembler.proofs.Numbers.{start_done}
use Rattle.s390x_disassembler.proofs.scan.number_start.Goals as goal

pub returns-clause-there : goal.returns-clause-there
returns-clause-there c = start_done c.loop-i.i c.args.text.now (number_on c.args.text.now) c.loop-i-test.false c.loop-i.invariant
