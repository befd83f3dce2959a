-- What the table of rows and that of meanings say of an opcode, by computation: one equation an opcode.
use Rattle.std.proofs.Common.{◌≡◌, ℕ, ◌<◌, Option, Some, None, Bool, true, false, ap, nat_lt, ltb-true}
use Rattle.s390x_format.specs.declared.kind.FormatKind.{FormatKind}
use Rattle.s390x_format.specs.declared.kind.FormatKind.TheVariants.{RrfAb}
use Rattle.s390x_format.specs.declared.row.Allowed.{Allowed}
use Rattle.s390x_format.specs.declared.row.Allowed.TheVariants.{Any, FirstMask}
use Rattle.s390x_format.specs.Lookup.{row_for}
use Rattle.s390x_format.specs.Fetch.{machine_rows}
use Rattle.s390x_typed_steps.specs.SingleInstruction.{two_operands}
use Rattle.s390x_format.specs.declared.semantics.RowSemantics.{RowSemantics}
use Rattle.s390x_machine.specs.Semantics.{semantics_of, names_pair}

-- ---- one opcode

abbrev pub Lists : ℕ → FormatKind → Allowed → Type 0
Lists opcode kind allowed =
    ((row_for machine_rows opcode).opcode ≡ opcode)
    × ((row_for machine_rows opcode).format ≡ kind)
    × ((row_for machine_rows opcode).allowed ≡ allowed)

-- what the tables say
pub record Entry : Type 0 where
  pub format : FormatKind
  pub opcode : ℕ
  pub allowed : Allowed
  pub semantics : Option RowSemantics
  pub some : Bool
  pub few : Bool

abbrev pub entry : (digits opcode : ℕ) → Entry
entry digits opcode =
    let row = row_for machine_rows opcode in record { format = row.format; opcode = row.opcode; allowed = row.allowed; semantics = semantics_of opcode; some = nat_lt 0 opcode; few = nat_lt opcode digits }

abbrev pub wanted : FormatKind → Allowed → ℕ → RowSemantics → Entry
wanted kind allowed opcode semantics = record { format = kind; opcode = opcode; allowed = allowed; semantics = Some semantics; some = true; few = true }

-- a row of the table with semantics, whose opcode is below a bound: those of two and three digits are below 256 and 4096
pub record Listed (kind : FormatKind) (allowed : Allowed) (digits opcode : ℕ) (semantics : RowSemantics) : Type 0 where
  pub is : entry digits opcode ≡ wanted kind allowed opcode semantics

pub some_opcode : {kind : FormatKind} {allowed : Allowed} {digits opcode : ℕ} {semantics : RowSemantics} → Listed kind allowed digits opcode semantics → 0 < opcode
some_opcode {opcode = opcode} row = ltb-true 0 opcode (ap (λ (x : Entry). x.some) row.is)

pub few_digits : {kind : FormatKind} {allowed : Allowed} {digits opcode : ℕ} {semantics : RowSemantics} → Listed kind allowed digits opcode semantics → opcode < digits
few_digits {digits = digits} {opcode = opcode} row = ltb-true opcode digits (ap (λ (x : Entry). x.few) row.is)

pub lists_row : {kind : FormatKind} {allowed : Allowed} {digits opcode : ℕ} {semantics : RowSemantics} → Listed kind allowed digits opcode semantics → Lists opcode kind allowed
lists_row row = (ap (λ (x : Entry). x.opcode) row.is, ap (λ (x : Entry). x.format) row.is, ap (λ (x : Entry). x.allowed) row.is)

pub means_this : {kind : FormatKind} {allowed : Allowed} {digits opcode : ℕ} {semantics : RowSemantics} → Listed kind allowed digits opcode semantics → semantics_of opcode ≡ Some semantics
means_this row = ap (λ (x : Entry). x.semantics) row.is

-- one that names no pair, and one that may
abbrev pub ListedRow : FormatKind → Allowed → (digits opcode : ℕ) → RowSemantics → Type 0
ListedRow kind allowed digits opcode semantics = Listed kind allowed digits opcode semantics × (names_pair semantics ≡ false)

abbrev pub PairRow : FormatKind → Allowed → ℕ → RowSemantics → Type 0
PairRow kind allowed opcode semantics = Listed kind allowed 65536 opcode semantics

-- ---- the opcode of an operator, where it has one

abbrev pub ListedRows : (ℕ → FormatKind) → Allowed → (digits : ℕ) → Option ℕ → RowSemantics → Type 0
ListedRows kind allowed digits None semantics = Unit {0}
ListedRows kind allowed digits (Some opcode) semantics = ListedRow (kind opcode) allowed digits opcode semantics

-- the tables agree on it: this computes for each operator, also where there is none
abbrev pub Agrees : (ℕ → FormatKind) → Allowed → (digits : ℕ) → Option ℕ → RowSemantics → Type 0
Agrees kind allowed digits None semantics = true ≡ true
Agrees kind allowed digits (Some opcode) semantics = entry digits opcode ≡ wanted (kind opcode) allowed opcode semantics

pub rows : (kind : ℕ → FormatKind) (allowed : Allowed) (digits : ℕ) (o : Option ℕ) (semantics : RowSemantics) → names_pair semantics ≡ false → Agrees kind allowed digits o semantics → ListedRows kind allowed digits o semantics
rows kind allowed digits None semantics single e = tt
rows kind allowed digits (Some opcode) semantics single e = (record { is = e }, single)

-- ---- the kinds of rows

abbrev pub none_but_zero : Allowed
none_but_zero = FirstMask 0 0

-- two registers: RR with an opcode of two digits, else RRE
abbrev pub two_format : ℕ → FormatKind
two_format opcode = (two_operands opcode 0 0).format

abbrev pub TwoRow : ℕ → RowSemantics → Type 0
TwoRow opcode semantics = ListedRow (two_format opcode) Any 65536 opcode semantics

abbrev pub TwoRows : Option ℕ → RowSemantics → Type 0
TwoRows o semantics = ListedRows two_format Any 65536 o semantics

-- three registers
abbrev pub ThreeRow : ℕ → RowSemantics → Type 0
ThreeRow opcode semantics = ListedRow RrfAb none_but_zero 65536 opcode semantics

abbrev pub ThreeRows : Option ℕ → RowSemantics → Type 0
ThreeRows o semantics = ListedRows (λ n. RrfAb) none_but_zero 65536 o semantics

-- any masks and immediates
abbrev pub OpcodeRow : FormatKind → (digits opcode : ℕ) → RowSemantics → Type 0
OpcodeRow kind digits opcode semantics = ListedRow kind Any digits opcode semantics

abbrev pub OpcodeRows : FormatKind → (digits : ℕ) → Option ℕ → RowSemantics → Type 0
OpcodeRows kind digits o semantics = ListedRows (λ n. kind) Any digits o semantics

-- an opcode of four digits
abbrev pub Meant : FormatKind → Allowed → ℕ → RowSemantics → Type 0
Meant kind allowed opcode semantics = ListedRow kind allowed 65536 opcode semantics

abbrev pub MeantRows : FormatKind → Allowed → Option ℕ → RowSemantics → Type 0
MeantRows kind allowed o semantics = ListedRows (λ n. kind) allowed 65536 o semantics
