use Rattle.s390x_disassembler.proofs.OneLine.{line_told}
use Rattle.s390x_disassembler.proofs.one_line.is_code.Goals as goal

pub returns-in-Some-clause-code : goal.returns-in-Some-clause-code
returns-in-Some-clause-code c = λ e. record {
  unit = c.is_unit_line.ensures.unit e;
  located = c.in-Some.located;
  is = c.in-Some.ensures;
  line_is = c.is_unit_line.ensures.line e;
}

pub returns-in-Some-clause-none : goal.returns-in-Some-clause-none
returns-in-Some-clause-none c = λ e f. c.is_unit_line.ensures.none e f.unit (line_told c.args.address c.args.line.now c.args.bytes.now c.in-Some.located c.in-Some.ensures f)

pub returns-in-None-clause-none : goal.returns-in-None-clause-none
returns-in-None-clause-none c = λ e f. c.in-None.ensures f.located.decoded f.is.fetch
