-- The table of machine rows and its index pass their tests.
use Rattle.std.proofs.Common.{◌≡◌, true, refl}
use Rattle.s390x_format.specs.declared.table.TheConstants.{MACHINE_ROWS}
use Rattle.s390x_format.specs.declared.first_bytes.TheConstants.{FIRST_BYTES}
use Rattle.s390x_format.specs.declared.row_offsets.TheConstants.{ROW_OFFSETS}
use Rattle.s390x_format.specs.Index.{is_index, are_indexed, are_tight, are_placed, has_room}
use Rattle.s390x_format.specs.Formats.{place_of, length_of}
use Rattle.s390x_format.specs.Rows.{are_rows, rises, rows_with}

pub rows_are : are_rows MACHINE_ROWS ≡ true
unfolding are_rows place_of length_of
rows_are = refl

pub rows_rise : rises 0 MACHINE_ROWS ≡ true
unfolding rises
rows_rise = refl

pub rows_indexed : is_index MACHINE_ROWS FIRST_BYTES ≡ true
unfolding are_indexed are_tight rows_with place_of
rows_indexed = refl

pub rows_placed : are_placed 0 MACHINE_ROWS FIRST_BYTES ROW_OFFSETS ≡ true
unfolding are_placed place_of
rows_placed = refl

pub offsets_have_room : has_room FIRST_BYTES ROW_OFFSETS ≡ true
unfolding has_room
offsets_have_room = refl
