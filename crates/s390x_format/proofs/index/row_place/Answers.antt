use Rattle.std.proofs.Common.{◌+◌, ◌<◌, get_or, arith}
use Rattle.s390x_format.specs.declared.index.FirstByte.{FirstByte}
use Rattle.s390x_format.specs.Index.{no_first_byte}
use Rattle.s390x_format.proofs.Searching.{Roomy, room_at}
use Rattle.s390x_format.proofs.index.row_place.Goals as goal

pub overflow_add-result : goal.overflow_add-result
overflow_add-result c =
    let r : Roomy (get_or c.args.firsts.now c.args.first no_first_byte) c.args.offsets.now = room_at c.args.firsts.now c.args.offsets.now c.args.first c.requires (omega (arith, c.told-firsts, c.ranges.first)) in
    omega (arith, r.few, c.ranges.rest)

pub bounds-offsets-span : goal.bounds-offsets-span
bounds-offsets-span c =
    let r : Roomy (get_or c.args.firsts.now c.args.first no_first_byte) c.args.offsets.now = room_at c.args.firsts.now c.args.offsets.now c.args.first c.requires (omega (arith, c.told-firsts, c.ranges.first)) in
    omega (arith, r.enough, c.ranges.rest)

pub overflow_add-result-2 : goal.overflow_add-result-2
overflow_add-result-2 c =
    let r : Roomy (get_or c.args.firsts.now c.args.first no_first_byte) c.args.offsets.now = room_at c.args.firsts.now c.args.offsets.now c.args.first c.requires (omega (arith, c.told-firsts, c.ranges.first)) in
    let span : FirstByte = get_or c.args.firsts.now c.args.first no_first_byte in
    let small : get_or c.args.offsets.now (span.offsets + c.args.rest) 0 < 256 = omega (arith, c.type_inv.offsets (span.offsets + c.args.rest)) in
    omega (arith, r.start, small)
