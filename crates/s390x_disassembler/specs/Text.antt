-- The text of an instruction: its mnemonic and its operands as GNU's assembler writes them.
use Rattle.std.specs.Prelude.{ℕ, ℤ, pos, negsuc, ◌+◌, ◌*◌, ◌%◌, ◌^◌, ◌-ℤ◌, List, [], ◌∷◌, ◌++◌, codes, map, length, get_or, slice_index, Bool, true, false, not, ◌==◌, nat_lt, if◌then◌else◌, Option, Some, None}
use Rattle.std.specs.Borrow.{Bor}
use Rattle.std.specs.Fmt.{decimal, signed_decimal, digits}
use Rattle.std.specs.Int.{cast_unsigned}
use mir.Syntax.{w64}
use Rattle.hex.specs.Hex.{encode_lower}
use Rattle.s390x_format.specs.declared.decoder.Located.{Located}
use Rattle.s390x_format.specs.declared.fields.Fields.{Fields}
use Rattle.s390x_disassembler.specs.declared.forms.Operand.{Operand}
use Rattle.s390x_disassembler.specs.declared.forms.Operand.TheVariants.{General, Float, Vector, Access, Mask, NonzeroMask, UnnamedMask, Unsigned, Signed16, Signed32, Target, Storage, Indexed}
use Rattle.s390x_format.specs.declared.spelling.Form.{Form}
use Rattle.s390x_format.specs.declared.spelling.Suffix.{Suffix}
use Rattle.s390x_format.specs.declared.table.TheConstants.{SPELLINGS}
use Rattle.s390x_disassembler.specs.Forms.{operands_of}
use Rattle.s390x_disassembler.specs.Spelling.{letters_of}

-- a register: `%`, the letter of its kind, and its number
abbrev pub register_text : ℕ → ℕ → List ℕ
register_text letter n = 37 ∷ (letter ∷ decimal n)

-- a general register
abbrev pub general_text : ℕ → List ℕ
general_text n = register_text 114 n

-- the registers of an address: none where both are 0, the base alone where the index is 0, else both
unfoldable pub registers_text : ℕ → ℕ → List ℕ
registers_text index base =
    if index == 0 then (if base == 0 then [] else 40 ∷ (general_text base ++ (41 ∷ [])))
    else 40 ∷ (general_text index ++ (44 ∷ (general_text base ++ (41 ∷ []))))

-- an address in storage
abbrev pub storage_text : ℤ → ℕ → ℕ → List ℕ
storage_text disp index base = signed_decimal disp ++ registers_text index base

-- the signed number that an immediate stands for, which is negative from this one on
abbrev pub signed_of : ℕ → ℤ → ℤ
signed_of half (pos n) = if nat_lt n half then pos n else pos n -ℤ pos (2 * half)
signed_of half (negsuc n) = negsuc n

-- the address that lies some bytes behind another, modulo 2^64
abbrev pub target_of : ℕ → ℤ → ℕ
target_of address distance = (address + cast_unsigned w64 distance) % 2 ^ 64

-- what is written for an operand
abbrev pub operand_text : ℕ → Fields → Operand → List ℕ
operand_text a f (General k) = register_text 114 (slice_index f.regs k)
operand_text a f (Float k) = register_text 102 (slice_index f.regs k)
operand_text a f (Vector k) = register_text 118 (slice_index f.regs k)
operand_text a f (Access k) = register_text 97 (slice_index f.regs k)
operand_text a f (Mask k) = decimal (slice_index f.masks k)
operand_text a f NonzeroMask = decimal (slice_index f.masks 0)
operand_text a f UnnamedMask = decimal (slice_index f.masks 0)
operand_text a f Unsigned = signed_decimal f.imm
operand_text a f Signed16 = signed_decimal (signed_of 32768 f.imm)
operand_text a f Signed32 = signed_decimal (signed_of 2147483648 f.imm)
operand_text a f Target = 48 ∷ (120 ∷ digits 16 false (target_of a f.imm))
operand_text a f (Storage k) = storage_text f.disp 0 (slice_index f.regs k)
operand_text a f (Indexed i b) = storage_text f.disp (slice_index f.regs i) (slice_index f.regs b)

-- an operand is written: a mask isn't where letters of the mnemonic name it, or it is 0 and optional
abbrev pub is_written : List ℕ → Fields → Operand → Bool
is_written letters f NonzeroMask = not (slice_index f.masks 0 == 0)
is_written letters f UnnamedMask = length letters == 0
is_written letters f _ = true

-- the operands, each behind a comma, and the first behind a byte
abbrev pub operands_text : ℕ → ℕ → List ℕ → Fields → List Operand → List ℕ
operands_text separator a letters f [] = []
operands_text separator a letters f (o ∷ os) =
    if is_written letters f o then separator ∷ (operand_text a f o ++ operands_text 44 a letters f os) else operands_text separator a letters f os

-- a row of the table of spellings without the places of its texts
abbrev pub plain_row : Bor (List ℕ) × Suffix × Form → List ℕ × Suffix × Form
plain_row row = (row.0.now, row.1, row.2)

-- a mnemonic with its letters, and after a blank the operands
unfoldable pub spelled_instruction : ℕ → List ℕ × Suffix × Form → Fields → List ℕ
spelled_instruction a s f = s.0 ++ (letters_of s.1 f ++ operands_text 32 a (letters_of s.1 f) f (operands_of s.2))

-- an instruction of the row at a place of the table, at an address
unfoldable pub row_text : List (List ℕ × Suffix × Form) → ℕ → ℕ → Fields → List ℕ
row_text spellings a at f = get_or (map (λ s. spelled_instruction a s f) spellings) at []

-- the spellings of the machine rows, in the order of their table
abbrev pub spellings : List (List ℕ × Suffix × Form)
spellings = map (λ row. (row.0.now, row.1, row.2)) SPELLINGS

-- some bytes in pairs, each behind a separator, the first of which is given
abbrev pub pairs_text : ℕ → List ℕ → List ℕ
pairs_text separator [] = []
pairs_text separator (b ∷ []) = []
pairs_text separator (b ∷ c ∷ bs) = separator ∷ (48 ∷ (120 ∷ (encode_lower (b ∷ c ∷ []) ++ pairs_text 44 bs)))

-- some bytes one by one, each behind a separator, the first of which is given
abbrev pub bytes_text : ℕ → List ℕ → List ℕ
bytes_text separator [] = []
bytes_text separator (b ∷ bs) = separator ∷ (48 ∷ (120 ∷ (encode_lower (b ∷ []) ++ bytes_text 44 bs)))

-- bytes of no instruction
unfoldable pub data_text : List ℕ → List ℕ
data_text bytes = if length bytes % 2 == 0 then codes ".short" ++ pairs_text 32 bytes else codes ".byte" ++ bytes_text 32 bytes

-- what is found at an address, of these bytes
abbrev pub found_text : ℕ → List ℕ → Option Located → List ℕ
found_text a bytes None = data_text bytes
found_text a bytes (Some l) = row_text spellings a l.at l.decoded.fields
