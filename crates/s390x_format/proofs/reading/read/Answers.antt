use Rattle.std.proofs.Common.{◌≡◌, sym, ◌∙◌, arith}
use Rattle.s390x_format.specs.Reading.{IsLeading}
use Rattle.s390x_format.proofs.Finding.{Known, Measured, known, measured, placed, placed_below, some_bytes, read_here, read_there}
use Rattle.s390x_format.proofs.reading.read.Goals as goal

pub returns-in-None-clause-complete : goal.returns-in-None-clause-complete
returns-in-None-clause-complete c d h =
    let k : Known c.args.rows.now c.args.firsts.now c.args.bytes.now d = known c.args.rows.now c.args.firsts.now c.args.bytes.now d c.requires.table c.requires.index h in
    absurd (omega (arith, k.enough, c.in-None.ensures))

pub rest_of-rest-requires-clause-leading : goal.rest_of-rest-requires-clause-leading
rest_of-rest-requires-clause-leading c = c.in-Some.ensures

pub rest_of-rest-requires-clause-some : goal.rest_of-rest-requires-clause-some
rest_of-rest-requires-clause-some c = some_bytes c.args.bytes.now c.in-Some.l c.in-Some.ensures

pub rest_of-rest-requires-clause-enough : goal.rest_of-rest-requires-clause-enough
rest_of-rest-requires-clause-enough c = let is : IsLeading c.args.bytes.now c.in-Some.l = c.in-Some.ensures in is.enough

pub read_at-requires-clause-place : goal.read_at-requires-clause-place
read_at-requires-clause-place c =
    let m : Measured c.args.rows.now c.in-Some.l c.row_place-at.result =
    measured c.args.rows.now c.args.firsts.now c.args.offsets.now c.args.bytes.now c.in-Some.l c.rest_of-rest.result c.row_place-at.result c.requires.table c.requires.index c.in-Some.ensures c.row_place-at.ensures c.if-at-firsts.true in
    m.below

pub read_at-requires-clause-length : goal.read_at-requires-clause-length
read_at-requires-clause-length c =
    let m : Measured c.args.rows.now c.in-Some.l c.row_place-at.result =
    measured c.args.rows.now c.args.firsts.now c.args.offsets.now c.args.bytes.now c.in-Some.l c.rest_of-rest.result c.row_place-at.result c.requires.table c.requires.index c.in-Some.ensures c.row_place-at.ensures c.if-at-firsts.true in
    m.bytes

pub returns-then-at-firsts-clause-sound : goal.returns-then-at-firsts-clause-sound
returns-then-at-firsts-clause-sound c =
    let is : IsLeading c.args.bytes.now c.in-Some.l = c.in-Some.ensures in
    let m : Measured c.args.rows.now c.in-Some.l c.row_place-at.result =
    measured c.args.rows.now c.args.firsts.now c.args.offsets.now c.args.bytes.now c.in-Some.l c.rest_of-rest.result c.row_place-at.result c.requires.table c.requires.index is c.row_place-at.ensures c.if-at-firsts.true in
    read_there c.args.rows.now c.args.bytes.now c.in-Some.l.count c.row_place-at.result c.read_at.result (λ i. omega (arith, c.type_inv.bytes i)) is.enough m.below
    (rw is.number_is at c.read_at.ensures.sound)

pub returns-then-at-firsts-clause-complete : goal.returns-then-at-firsts-clause-complete
returns-then-at-firsts-clause-complete c d h =
    let k : Known c.args.rows.now c.args.firsts.now c.args.bytes.now d = known c.args.rows.now c.args.firsts.now c.args.bytes.now d c.requires.table c.requires.index h in
    let is : IsLeading c.args.bytes.now c.in-Some.l = c.in-Some.ensures in
    let here : k.at ≡ c.row_place-at.result =
    placed c.args.rows.now c.args.firsts.now c.args.offsets.now c.args.bytes.now d c.in-Some.l c.rest_of-rest.result c.requires.index c.requires.placed k is c.rest_of-rest.ensures ∙ sym c.row_place-at.ensures in
    c.read_at.ensures.complete d (read_here c.args.rows.now c.args.firsts.now c.args.bytes.now d c.in-Some.l c.row_place-at.result k is here)

pub returns-else-at-firsts-clause-complete : goal.returns-else-at-firsts-clause-complete
returns-else-at-firsts-clause-complete c d h =
    let k : Known c.args.rows.now c.args.firsts.now c.args.bytes.now d = known c.args.rows.now c.args.firsts.now c.args.bytes.now d c.requires.table c.requires.index h in
    let is : IsLeading c.args.bytes.now c.in-Some.l = c.in-Some.ensures in
    let here : k.at ≡ c.row_place-at.result =
    placed c.args.rows.now c.args.firsts.now c.args.offsets.now c.args.bytes.now d c.in-Some.l c.rest_of-rest.result c.requires.index c.requires.placed k is c.rest_of-rest.ensures ∙ sym c.row_place-at.ensures in
    let below = placed_below c.args.rows.now c.args.firsts.now c.args.bytes.now d c.in-Some.l c.requires.index k is in
    absurd (omega (arith, below, here, c.if-at-firsts.false))
