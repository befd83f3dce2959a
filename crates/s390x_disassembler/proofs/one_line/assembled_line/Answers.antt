use Rattle.std.proofs.Common.{arith}
use Rattle.s390x_disassembler.proofs.OneLine.{none_long}
use Rattle.s390x_disassembler.proofs.one_line.assembled_line.Goals as goal

pub returns-else-line-lt96-clause-none : goal.returns-else-line-lt96-clause-none
returns-else-line-lt96-clause-none c = none_long c.args.address c.args.line.now (omega (arith, c.if-line-lt96.false))
