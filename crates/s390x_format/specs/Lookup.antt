-- The row of an opcode, by computation.
use Rattle.std.specs.Prelude.{◌≡◌, ℕ, true, ◌==◌, List, [], ◌∷◌, slice_index, if◌then◌else◌}
use Rattle.s390x_format.specs.declared.row.MachineRow.{MachineRow}
use Rattle.s390x_format.specs.declared.kind.FormatKind.{FormatKind}
use Rattle.s390x_format.specs.Rows.{is_allowed}
use Rattle.s390x_format.specs.Reading.{no_row}

-- the first row with the opcode
unfoldable pub row_for : List MachineRow → ℕ → MachineRow
row_for [] o = no_row
row_for (r ∷ rs) o = let later = row_for rs o in if r.opcode == o then r else later

-- the row of the table that has the opcode is of this format, and allows the values
abbrev pub IsListed : List MachineRow → FormatKind → List ℕ → Type 0
IsListed rows kind slots =
    ((row_for rows (slice_index slots 0)).opcode ≡ slice_index slots 0)
    × ((row_for rows (slice_index slots 0)).format ≡ kind)
    × (is_allowed (row_for rows (slice_index slots 0)).allowed slots ≡ true)
