use Rattle.std.proofs.Common.{arith}
use Rattle.s390x_machine.proofs.instruction_fetch.fetch_row.Goals as goal

pub returns-in-Some-clause-fetches : goal.returns-in-Some-clause-fetches
returns-in-Some-clause-fetches g c =
    c.row_in.ensures.fetches (g.M.Memory.held c.args.memory.now) (g.M.Memory.byte c.args.memory.now) c.args.place (omega (arith, c.if-place-eq1.false)) c.ranges.place.fits c.in-Some.ensures

pub returns-in-None-clause-fetches : goal.returns-in-None-clause-fetches
returns-in-None-clause-fetches g c = (omega (arith, c.if-place-eq1.false), c.in-None.ensures)
