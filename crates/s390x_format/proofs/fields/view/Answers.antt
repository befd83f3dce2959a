use Rattle.std.proofs.Common.{lit<, arith}
use Rattle.s390x_format.proofs.SlotBounds.{slot_below}
use Rattle.s390x_format.proofs.fields.view.Goals as goal

pub overflow_cast-result : goal.overflow_cast-result
overflow_cast-result c = omega (arith, slot_below c.args.d.now.row.format c.args.d.now.slots 1 (lit< tt) c.requires)

pub overflow_cast-result-2 : goal.overflow_cast-result-2
overflow_cast-result-2 c = omega (arith, slot_below c.args.d.now.row.format c.args.d.now.slots 2 (lit< tt) c.requires)

pub overflow_cast-result-3 : goal.overflow_cast-result-3
overflow_cast-result-3 c = omega (arith, slot_below c.args.d.now.row.format c.args.d.now.slots 3 (lit< tt) c.requires)

pub overflow_cast-result-4 : goal.overflow_cast-result-4
overflow_cast-result-4 c = omega (arith, slot_below c.args.d.now.row.format c.args.d.now.slots 4 (lit< tt) c.requires)

pub overflow_cast-result-5 : goal.overflow_cast-result-5
overflow_cast-result-5 c = omega (arith, slot_below c.args.d.now.row.format c.args.d.now.slots 5 (lit< tt) c.requires)

pub overflow_cast-result-6 : goal.overflow_cast-result-6
overflow_cast-result-6 c = omega (arith, slot_below c.args.d.now.row.format c.args.d.now.slots 6 (lit< tt) c.requires)

pub overflow_cast-result-7 : goal.overflow_cast-result-7
overflow_cast-result-7 c = omega (arith, slot_below c.args.d.now.row.format c.args.d.now.slots 7 (lit< tt) c.requires)

pub read_disp-requires : goal.read_disp-requires
read_disp-requires c = omega (arith, slot_below c.args.d.now.row.format c.args.d.now.slots 9 (lit< tt) c.requires)
