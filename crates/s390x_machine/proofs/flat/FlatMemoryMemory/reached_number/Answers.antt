use Rattle.std.proofs.Common.{sym, ◌∙◌}
use Rattle.s390x_machine.proofs.Regions.{all_held}
use Rattle.s390x_machine.proofs.flat.FlatMemoryMemory.reached_number.Goals as goal

pub returns-in-Some : goal.returns-in-Some
returns-in-Some c = (all_held c.args.self.now c.args.address c.args.n c.in-Some.i c.in-Some.ensures, c.region_number.ensures.value)

pub returns-else-not-has_one_by_one : goal.returns-else-not-has_one_by_one
returns-else-not-has_one_by_one c = (sym (sym c.if-not-has_one_by_one.false ∙ c.has_one_by_one.ensures), c.number_one_by_one.ensures.value)
