-- What the mnemonics of a machine row begin with, by its opcode.
use Rattle.std.specs.Prelude.{◌≡◌, ℕ, suc, ◌/◌, ◌%◌, ◌<◌, ◌==◌, nat_lt, List, [], ◌∷◌, map, length, get_or, if◌then◌else◌}
use Rattle.std.specs.Borrow.{Bor}
use Rattle.s390x_format.specs.declared.row.MachineRow.{MachineRow}
use Rattle.s390x_format.specs.declared.spelling.Form.{Form}
use Rattle.s390x_format.specs.declared.spelling.Suffix.{Suffix}
use Rattle.s390x_format.specs.declared.table.TheConstants.{MACHINE_ROWS, SPELLINGS}
use Rattle.s390x_format.specs.declared.first_bytes.TheConstants.{FIRST_BYTES}
use Rattle.s390x_format.specs.declared.row_offsets.TheConstants.{ROW_OFFSETS}
use Rattle.s390x_format.specs.Index.{place_in}
use Rattle.s390x_format.specs.Reading.{no_row}

-- the place of the first row with the opcode, past the last row where none has it
unfoldable pub place_for : List MachineRow → ℕ → ℕ
place_for [] opcode = 0
place_for (row ∷ rows) opcode = if row.opcode == opcode then 0 else suc (place_for rows opcode)

-- the stem of the row with the opcode; nothing where no row has it
unfoldable pub stem_of : ℕ → List ℕ
stem_of opcode = get_or (map (λ spelling. spelling.0.now) SPELLINGS) (place_for MACHINE_ROWS opcode) []

-- the stems of a table of spellings that is passed
abbrev pub stems_passed : List (Bor (List ℕ) × Suffix × Form) → List (List ℕ)
stems_passed spellings = map (λ spelling. spelling.0.now) spellings

-- ---- where the index has the row of an opcode

-- the first byte of an opcode of two, three or four digits
abbrev pub first_digits : ℕ → ℕ
first_digits opcode = if nat_lt opcode 256 then opcode else (if nat_lt opcode 4096 then opcode / 16 else opcode / 256)

-- and the rest of it
abbrev pub last_digits : ℕ → ℕ
last_digits opcode = if nat_lt opcode 256 then 0 else (if nat_lt opcode 4096 then opcode % 16 else opcode % 256)

-- the place that the index tells
unfoldable pub indexed_place : ℕ → ℕ
indexed_place opcode = place_in FIRST_BYTES ROW_OFFSETS (first_digits opcode) (last_digits opcode)

-- no row at another place has the opcode
abbrev pub IsOnlyAt : List MachineRow → (opcode at : ℕ) → Type 0
IsOnlyAt rows opcode at = (i : ℕ) → i < length rows → (get_or rows i no_row).opcode ≡ opcode → i ≡ at
