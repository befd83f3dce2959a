use Rattle.std.proofs.Common.{sym, ◌∙◌}
use Rattle.s390x_machine.proofs.Regions.{all_held}
use Rattle.s390x_machine.proofs.flat.FlatMemoryMemory.put_reached.Goals as goal

pub put_region_number-requires-clause-there : goal.put_region_number-requires-clause-there
put_region_number-requires-clause-there c = all_held c.args.self.now c.args.address c.args.n c.in-Some.i c.in-Some.ensures

pub put_one_by_one-requires : goal.put_one_by_one-requires
put_one_by_one-requires c = sym (sym c.if-not-has_one_by_one.false ∙ c.has_one_by_one.ensures)

pub returns-in-Some-clause-reached : goal.returns-in-Some-clause-reached
returns-in-Some-clause-reached c = sym (all_held c.args.self.now c.args.address c.args.n c.in-Some.i c.in-Some.ensures)
