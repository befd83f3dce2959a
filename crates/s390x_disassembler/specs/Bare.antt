-- What a line without its address and its bytes is read as.
use Rattle.std.specs.Prelude.{◌≡◌, ℕ, ◌%◌, ◌<◌, ◌≤◌, Bool, true, ◌&&◌, nat_lt, nat_le, List, [], ◌∷◌, ◌++◌, length, take, drop, get_or, slice_index, Option, Some}
use Rattle.hex.specs.Hex.{encode_lower, IsBytes}
use Rattle.s390x_format.specs.declared.row.MachineRow.{MachineRow}
use Rattle.s390x_format.specs.declared.decoder.Located.{Located}
use Rattle.s390x_format.specs.Layout.{SlotsFit}
use Rattle.s390x_format.specs.Formats.{layout_of}
use Rattle.s390x_format.specs.Rows.{is_allowed, fetch_length_of}
use Rattle.s390x_format.specs.Reading.{encode, no_row}
use Rattle.s390x_format.specs.View.{fields_of}
use Rattle.s390x_format.specs.Fetch.{IsLocated}
use Rattle.s390x_format.specs.declared.spelling.Form.{Form}
use Rattle.s390x_format.specs.declared.spelling.Form.TheVariants.{BranchRegister}
use Rattle.s390x_format.specs.declared.spelling.Suffix.{Suffix}
use Rattle.s390x_format.specs.declared.spelling.Suffix.TheVariants.{Plain}
use Rattle.s390x_disassembler.specs.Forms.{operands_of}
use Rattle.s390x_disassembler.specs.Spelling.{letters_of}
use Rattle.s390x_disassembler.specs.Text.{operands_text, found_text}
use Rattle.s390x_disassembler.specs.Names.{row_named}
use Rattle.s390x_disassembler.specs.Start.{is_legible}
use Rattle.s390x_disassembler.specs.Lines.{IsFound}

-- as many bytes as stand together: some, and no more than the first tells
unfoldable pub is_unit : List ℕ → Bool
is_unit bytes = nat_lt 0 (length bytes) && nat_le (length bytes) (fetch_length_of (slice_index bytes 0))

-- what a read past a table's end gives
abbrev pub no_spelling : List ℕ × Suffix × Form
no_spelling = ([], Plain, BranchRegister)

-- a mnemonic and a text are those of a row with some values
pub record IsSpelled (a : ℕ) (row : MachineRow) (s : List ℕ × Suffix × Form) (values m text more : List ℕ) : Type 0 where
  pub fit : SlotsFit (layout_of row.format) values
  pub opcode : slice_index values 0 ≡ row.opcode
  pub allowed : is_allowed row.allowed values ≡ true
  pub legible : is_legible row s ≡ true
  pub mnemonic : m ≡ s.0 ++ letters_of s.1 (fields_of row.format values)
  pub text_is : text ≡ operands_text 32 a (letters_of s.1 (fields_of row.format values)) (fields_of row.format values) (operands_of s.2) ++ (10 ∷ more)

-- the bytes are those of the values with which the row is spelled so
abbrev pub IsSpelledRead : ℕ → MachineRow → List ℕ × Suffix × Form → List ℕ → List ℕ → List ℕ → Type 0
IsSpelledRead a row s m text bytes = (values more : List ℕ) → IsSpelled a row s values m text more → bytes ≡ encode row.format values

-- the bytes are those of values with which the row that the mnemonic names is spelled
abbrev pub IsRowRead : ℕ → List (List ℕ × Suffix × Form) → List MachineRow → List ℕ → List ℕ → List ℕ → Type 0
IsRowRead a ss rows m text bytes =
    (at : ℕ) → at < length ss → at < length rows → row_named ss m ≡ at → IsSpelledRead a (get_or rows at no_row) (get_or ss at no_spelling) m text bytes

-- bytes are written in groups of this size, each behind a separator
pub record AreGroups (size : ℕ) (write : ℕ → List ℕ → List ℕ) : Type 0 where
  pub none : (separator : ℕ) → write separator [] ≡ []
  pub some : (separator : ℕ) (bytes : List ℕ) → size ≤ length bytes → write separator bytes ≡ separator ∷ (48 ∷ (120 ∷ (encode_lower (take size bytes) ++ write 44 (drop size bytes))))

-- the bytes are those that are written in groups
abbrev pub IsGroupRead : ℕ → List ℕ → List ℕ → Type 0
IsGroupRead size text bytes =
    (write : ℕ → List ℕ → List ℕ) (u more : List ℕ) → AreGroups size write → IsBytes u → length u % size ≡ 0 → text ≡ write 32 u ++ (10 ∷ more) → bytes ≡ u

-- the bytes are those of which the first line is written
abbrev pub IsBareRead : ℕ → List ℕ → List ℕ → Type 0
IsBareRead a text bytes = (u : List ℕ) (x : Option Located) (more : List ℕ) → IsBytes u → is_unit u ≡ true → IsFound u x → text ≡ found_text a u x ++ (10 ∷ more) → bytes ≡ u

-- the bytes are those of the instruction of which the first line is written
abbrev pub IsInstructionRead : ℕ → List ℕ → List ℕ → Type 0
IsInstructionRead a text bytes = (u : List ℕ) (l : Located) (more : List ℕ) → is_unit u ≡ true → IsLocated u l → text ≡ found_text a u (Some l) ++ (10 ∷ more) → bytes ≡ u
