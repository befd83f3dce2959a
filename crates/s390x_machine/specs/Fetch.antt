-- Fetching: what the bytes at an address are (Principles of Operation, chapter 5, "Instruction formats" and "Sequential instruction execution").
use Rattle.std.specs.Prelude.{◌≡◌, ℕ, ◌%◌, IsTrue, List}
use Rattle.s390x_format.specs.declared.decoder.Decoded.{Decoded}
use Rattle.s390x_format.specs.Fetch.{IsFetch, machine_rows}
use Rattle.s390x_format.specs.Reading.{HasOpcode}
use Rattle.s390x_format.specs.Rows.{fetch_length_of}
pub use Rattle.s390x_machine.specs.declared.instruction_fetch.Fetched.{Fetched}
pub use Rattle.s390x_machine.specs.declared.instruction_fetch.Fetched.TheVariants.{Misplaced, Missing, Unknown, Found}
use Rattle.s390x_machine.specs.declared.instruction_fetch.FetchedRow.{FetchedRow}
use Rattle.s390x_operations.specs.State.{Memory, bytes_at, reaches}

-- how many bytes the first one tells
abbrev pub length_at : Memory → ℕ → ℕ
length_at m address = fetch_length_of (m.get address)

-- the instruction's bytes
abbrev pub instruction_bytes : Memory → ℕ → List ℕ
instruction_bytes m address = bytes_at m.get address (length_at m address)

-- the instruction's bytes are accessible, the first of them to begin with
abbrev pub IsReached : Memory → ℕ → Type 0
IsReached m address = IsTrue (m.has address) × IsTrue (reaches m.has address (length_at m address))

-- an instruction at an even address whose bytes are accessible has its row, where some row has them
pub record IsFound (m : Memory) (address : ℕ) (d : Decoded) : Type 0 where
  pub even : address % 2 ≡ 0
  pub reached : IsReached m address
  pub row : IsFetch (instruction_bytes m address) d

-- what fetching at an address gives: the address is odd, a byte isn't accessible, no row has the bytes, or a row has them
abbrev pub Fetches : Memory → ℕ → Fetched → Type 0
Fetches m address Misplaced = address % 2 ≡ 1
Fetches m address Missing = (address % 2 ≡ 0) × (IsReached m address → ⊥)
Fetches m address Unknown = (address % 2 ≡ 0) × IsReached m address × ((d : Decoded) → IsFetch (instruction_bytes m address) d → ⊥)
Fetches m address (Found d) = IsFound m address d

-- what was fetched, without the place of its row in the table
abbrev pub fetched_in : FetchedRow → Fetched
fetched_in FetchedRow.Misplaced = Misplaced
fetched_in FetchedRow.Missing = Missing
fetched_in FetchedRow.Unknown = Unknown
fetched_in (FetchedRow.Found l) = Found l.decoded

-- at the place that was found with an instruction the table has a row with its opcode
abbrev pub StandsInTable : FetchedRow → Type 0
StandsInTable FetchedRow.Misplaced = Unit {0}
StandsInTable FetchedRow.Missing = Unit {0}
StandsInTable FetchedRow.Unknown = Unit {0}
StandsInTable (FetchedRow.Found l) = HasOpcode machine_rows l.decoded.row.opcode l.at
