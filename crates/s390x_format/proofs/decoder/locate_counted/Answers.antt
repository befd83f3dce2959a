use Rattle.s390x_format.specs.Fetch.{machine_rows}
use Rattle.s390x_format.proofs.RowTable.{rows_are, rows_rise, rows_indexed}
use Rattle.s390x_format.proofs.decoder.locate_counted.Goals as goal

pub read_counted-requires-clause-table : goal.read_counted-requires-clause-table
read_counted-requires-clause-table g c = rows_are

pub read_counted-requires-clause-index : goal.read_counted-requires-clause-index
read_counted-requires-clause-index g c = rows_indexed

pub read_counted-requires-clause-rising : goal.read_counted-requires-clause-rising
read_counted-requires-clause-rising g c = rows_rise

pub located_row-requires-clause-sound : goal.located_row-requires-clause-sound
unfolding machine_rows
located_row-requires-clause-sound g c = c.read_counted.ensures.sound

pub located_row-requires-clause-complete : goal.located_row-requires-clause-complete
unfolding machine_rows
located_row-requires-clause-complete g c = c.read_counted.ensures.complete

pub returns-clause-few_steps : goal.returns-clause-few_steps
unfolding machine_rows
returns-clause-few_steps g c = c.read_counted.ensures.few_steps
