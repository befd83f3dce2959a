use Rattle.std.proofs.Common.{sym, ◌∙◌}
use Rattle.s390x_format.proofs.Packing.{pack_step, pack_done, loop_bound, layout_narrow, narrow_at}
use Rattle.s390x_format.proofs.layouts.pack.Goals as goal

pub piece_of-requires-clause-low : goal.piece_of-requires-clause-low
piece_of-requires-clause-low c = (narrow_at c.args.parts.now c.loop-part.part-index _ (layout_narrow _ c.requires) c.loop-part-test.true).0

pub piece_of-requires-clause-width : goal.piece_of-requires-clause-width
piece_of-requires-clause-width c = (narrow_at c.args.parts.now c.loop-part.part-index _ (layout_narrow _ c.requires) c.loop-part-test.true).1

pub append-n-requires-clause-width : goal.append-n-requires-clause-width
append-n-requires-clause-width c = (narrow_at c.args.parts.now c.loop-part.part-index _ (layout_narrow _ c.requires) c.loop-part-test.true).1

pub append-n-requires-clause-fits : goal.append-n-requires-clause-fits
append-n-requires-clause-fits c = rw c.piece_of.ensures (loop_bound c.args.parts.now c.args.slots.now c.loop-part.part-index c.loop-part.n _ c.requires c.loop-part-test.true c.loop-part.invariant)

pub loop-part-preserved : goal.loop-part-preserved
loop-part-preserved c = rw (c.append-n.ensures, c.piece_of.ensures) (sym (pack_step c.args.parts.now c.args.slots.now c.loop-part.part-index c.loop-part.n _ c.loop-part-test.true) ∙ c.loop-part.invariant)

pub returns : goal.returns
returns c = pack_done c.args.parts.now c.args.slots.now c.loop-part.part-index c.loop-part.n _ c.loop-part-test.false c.loop-part.invariant
