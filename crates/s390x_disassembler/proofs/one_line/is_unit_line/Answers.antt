use Rattle.std.proofs.Common.{sym, ◌∙◌}
use Rattle.s390x_disassembler.specs.Bare.{is_unit}
use Rattle.s390x_disassembler.proofs.OneLine.{not_both}
use Rattle.s390x_disassembler.proofs.one_line.is_unit_line.Goals as goal

pub returns-then-is_unit-clause-unit : goal.returns-then-is_unit-clause-unit
returns-then-is_unit-clause-unit c = λ e. sym c.is_unit.ensures ∙ c.if-is_unit.true

pub returns-then-is_unit-clause-none : goal.returns-then-is_unit-clause-none
returns-then-is_unit-clause-none c = λ e u h. c.is_line.ensures.no e h

pub returns-else-is_unit-clause-none : goal.returns-else-is_unit-clause-none
returns-else-is_unit-clause-none c = λ e u h. not_both (is_unit c.args.bytes.now) u (sym c.is_unit.ensures ∙ c.if-is_unit.false)
