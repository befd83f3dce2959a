use Rattle.s390x_format.specs.Fetch.{machine_rows}
use Rattle.s390x_format.proofs.RowTable.{rows_are, rows_indexed, rows_placed, offsets_have_room}
use Rattle.s390x_format.proofs.decoder.locate.Goals as goal

pub read-requires-clause-table : goal.read-requires-clause-table
read-requires-clause-table c = rows_are

pub read-requires-clause-index : goal.read-requires-clause-index
read-requires-clause-index c = rows_indexed

pub read-requires-clause-placed : goal.read-requires-clause-placed
read-requires-clause-placed c = rows_placed

pub read-requires-clause-room : goal.read-requires-clause-room
read-requires-clause-room c = offsets_have_room

pub located_row-requires-clause-sound : goal.located_row-requires-clause-sound
unfolding machine_rows
located_row-requires-clause-sound c = c.read.ensures.sound

pub located_row-requires-clause-complete : goal.located_row-requires-clause-complete
unfolding machine_rows
located_row-requires-clause-complete c = c.read.ensures.complete
