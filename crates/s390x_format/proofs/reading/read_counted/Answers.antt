use Rattle.std.proofs.Common.{◌≡◌, get_or, sym, ◌∙◌, arith}
use Rattle.s390x_format.specs.Index.{LacksRow}
use Rattle.s390x_format.specs.Reading.{HasOpcode, IsLeading, no_row}
use Rattle.s390x_format.proofs.Finding.{Known, known, fetched_some, found, code_here, read_here}
use Rattle.s390x_format.proofs.reading.read_counted.Goals as goal

pub returns-in-None-clause-complete : goal.returns-in-None-clause-complete
returns-in-None-clause-complete g c d h =
    let k : Known c.args.rows.now c.args.firsts.now c.args.bytes.now d = known c.args.rows.now c.args.firsts.now c.args.bytes.now d c.requires.table c.requires.index h in
    absurd (omega (arith, k.enough, c.in-None.ensures))

pub returns-in-Some-search-clause-sound : goal.returns-in-Some-search-clause-sound
returns-in-Some-search-clause-sound g c =
    let is : IsLeading c.args.bytes.now c.in-Some.l = c.in-Some.ensures in
    let f : HasOpcode c.args.rows.now c.opcode_of-opcode.result c.in-Some-search.at = c.in-Some-search.ensures.row in
    fetched_some c.args.rows.now c.args.bytes.now c.in-Some.l.count c.opcode_of-opcode.result c.in-Some-search.at c.read_any.result
    (λ i. omega (arith, c.type_inv.bytes i)) is.enough f (rw is.number_is at c.read_any.ensures.sound)

pub returns-in-Some-search-clause-complete : goal.returns-in-Some-search-clause-complete
returns-in-Some-search-clause-complete g c d h =
    let k : Known c.args.rows.now c.args.firsts.now c.args.bytes.now d = known c.args.rows.now c.args.firsts.now c.args.bytes.now d c.requires.table c.requires.index h in
    let is : IsLeading c.args.bytes.now c.in-Some.l = c.in-Some.ensures in
    let f : HasOpcode c.args.rows.now c.opcode_of-opcode.result c.in-Some-search.at = c.in-Some-search.ensures.row in
    let e : (get_or c.args.rows.now k.at no_row).opcode ≡ c.opcode_of-opcode.result = code_here c.args.rows.now c.args.firsts.now c.args.bytes.now d c.in-Some.l c.opcode_of-opcode.result k is c.opcode_of-opcode.ensures in
    let r : k.at ≡ c.in-Some-search.at = found c.args.rows.now c.args.bytes.now d c.opcode_of-opcode.result c.in-Some-search.at c.requires.rising c.args.firsts.now k e f in
    c.read_any.ensures.complete d (read_here c.args.rows.now c.args.firsts.now c.args.bytes.now d c.in-Some.l c.in-Some-search.at k is r)

pub returns-in-None-search-clause-complete : goal.returns-in-None-search-clause-complete
returns-in-None-search-clause-complete g c d h =
    let k : Known c.args.rows.now c.args.firsts.now c.args.bytes.now d = known c.args.rows.now c.args.firsts.now c.args.bytes.now d c.requires.table c.requires.index h in
    let is : IsLeading c.args.bytes.now c.in-Some.l = c.in-Some.ensures in
    let f : LacksRow c.args.rows.now c.in-Some.l.first c.opcode_of-opcode.result = c.in-None-search.ensures.row in
    absurd (f k.at k.below (k.first ∙ sym is.first) (code_here c.args.rows.now c.args.firsts.now c.args.bytes.now d c.in-Some.l c.opcode_of-opcode.result k is c.opcode_of-opcode.ensures))
