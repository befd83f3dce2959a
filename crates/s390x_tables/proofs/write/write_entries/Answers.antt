use Rattle.s390x_tables.proofs.Writing.{map_more}
use Rattle.s390x_tables.proofs.write.write_entries.Goals as goal

pub loop-place-preserved : goal.loop-place-preserved
loop-place-preserved g c =
    map_more g.E.Flatten.flat c.args.out.now c.loop-place.out c.args.entries.now c.loop-place.place c.index-entries-place.result c.flatten.result
    c.loop-place.invariant c.loop-place-test.true c.requires c.index-entries-place.is c.flatten.ensures
