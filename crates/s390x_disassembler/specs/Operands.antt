-- Which values of an instruction its operands tell.
use Rattle.std.specs.Prelude.{◌≡◌, ℕ, ◌+◌, ◌^◌, ◌<◌, Bool, true, false, ◌&&◌, ◌||◌, ◌==◌, nat_lt, if◌then◌else◌, List, [], ◌∷◌, ◌++◌, length, get_or, slice_index, ◌⊎◌}
use Rattle.s390x_format.specs.declared.kind.FormatKind.{FormatKind}
use Rattle.s390x_format.specs.declared.fields.Fields.{Fields}
use Rattle.s390x_format.specs.declared.fields.Imm.{Imm}
use Rattle.s390x_format.specs.declared.fields.Imm.TheVariants.{Unsigned as ClassUnsigned, Signed16 as ClassSigned16, Half16, Half32}
use Rattle.s390x_format.specs.Layout.{SlotsFit}
use Rattle.s390x_format.specs.Formats.{layout_of}
use Rattle.s390x_format.specs.View.{fields_of, imm_class_of}
use Rattle.s390x_format.specs.Widths.{widths_of}
use Rattle.s390x_disassembler.specs.declared.forms.Operand.{Operand}
use Rattle.s390x_disassembler.specs.declared.forms.Operand.TheVariants.{General, Float, Vector, Access, Mask, NonzeroMask, UnnamedMask, Unsigned, Signed16, Signed32, Target, Storage, Indexed}
use Rattle.s390x_disassembler.specs.Text.{registers_text, operand_text, is_written, operands_text}

-- the operand tells the value in a slot
abbrev pub reads : Operand → ℕ → Bool
reads (General j) k = k == 1 + j
reads (Float j) k = k == 1 + j
reads (Vector j) k = k == 1 + j
reads (Access j) k = k == 1 + j
reads (Mask j) k = k == 5 + j
reads NonzeroMask k = k == 5
reads UnnamedMask k = k == 5
reads Unsigned k = k == 8
reads Signed16 k = k == 8
reads Signed32 k = k == 8
reads Target k = k == 8
reads (Storage b) k = (k == 9) || (k == 1 + b)
reads (Indexed i b) k = (k == 9) || (k == 1 + i) || (k == 1 + b)

-- an immediate whose sign its format doesn't tell
abbrev pub is_unsigned : Imm → Bool
is_unsigned ClassUnsigned = true
is_unsigned _ = false

-- an immediate whose sign its format doesn't tell, or one of 16 bits with its sign
abbrev pub is_number : Imm → Bool
is_number ClassUnsigned = true
is_number ClassSigned16 = true
is_number _ = false

-- half of a distance
abbrev pub is_distance : Imm → Bool
is_distance Half16 = true
is_distance Half32 = true
is_distance _ = false

-- how many bits the half of a distance has
abbrev pub half_width : Imm → ℕ
half_width Half16 = 16
half_width _ = 32

-- a format has what the operand is written of
abbrev pub suits : FormatKind → Operand → Bool
suits kind (General j) = nat_lt j 4
suits kind (Float j) = nat_lt j 4
suits kind (Vector j) = nat_lt j 4
suits kind (Access j) = nat_lt j 4
suits kind (Mask j) = nat_lt j 3
suits kind NonzeroMask = true
suits kind UnnamedMask = true
suits kind Unsigned = is_unsigned (imm_class_of kind)
suits kind Signed16 = is_number (imm_class_of kind) && (get_or (widths_of kind) 8 0 == 16)
suits kind Signed32 = is_unsigned (imm_class_of kind)
suits kind Target = is_distance (imm_class_of kind) && (get_or (widths_of kind) 8 0 == half_width (imm_class_of kind))
suits kind (Storage b) = nat_lt b 4
suits kind (Indexed i b) = nat_lt i 4 && nat_lt b 4

-- the value stands in the slot, and the others are as before
abbrev pub IsSet : ℕ → ℕ → List ℕ → List ℕ → Type 0
IsSet slot value before after = (k : ℕ) → k < 10 → slice_index after k ≡ (if k == slot then value else slice_index before k)

-- what the operand tells is that of the values, and the others are as before
abbrev pub IsUpdated : Operand → List ℕ → List ℕ → List ℕ → Type 0
IsUpdated o values before after = (k : ℕ) → k < 10 → slice_index after k ≡ (if reads o k then slice_index values k else slice_index before k)

-- an operand ends before a comma or a line feed
abbrev pub IsEnd : List ℕ → Type 0
IsEnd text = (slice_index text 0 ≡ 44) ⊎ (slice_index text 0 ≡ 10)

-- where an operand is written behind a separator, its values are read
abbrev pub IsRead : FormatKind → ℕ → Operand → List ℕ → List ℕ → List ℕ → List ℕ → Type 0
IsRead kind a o text before after rest =
    (values more : List ℕ) (separator : ℕ) → SlotsFit (layout_of kind) values → suits kind o ≡ true → separator < 45 → IsEnd more
    → text ≡ separator ∷ (operand_text a (fields_of kind values) o ++ more) → (rest ≡ more) × IsUpdated o values before after

-- where the registers of an address are written, they are read
abbrev pub AreRegisters : List ℕ → ℕ → ℕ → List ℕ → Type 0
AreRegisters text x b rest = (i j : ℕ) (more : List ℕ) → i < 2 ^ 8 → j < 2 ^ 8 → IsEnd more → text ≡ registers_text i j ++ more → (x ≡ i) × (b ≡ j) × (rest ≡ more)

-- an operand that may be left out is the last
abbrev pub is_in_order : List Operand → Bool
is_in_order [] = true
is_in_order (NonzeroMask ∷ os) = length os == 0
is_in_order (UnnamedMask ∷ os) = length os == 0
is_in_order (o ∷ os) = is_in_order os

-- a format has what each operand is written of
abbrev pub all_suit : FormatKind → List Operand → Bool
all_suit kind [] = true
all_suit kind (o ∷ os) = suits kind o && all_suit kind os

-- one of the operands that are written tells the value in a slot
abbrev pub tells : List ℕ → Fields → List Operand → ℕ → Bool
tells letters f [] k = false
tells letters f (o ∷ os) k = (is_written letters f o && reads o k) || tells letters f os k

-- each value is known, or an operand tells it
abbrev pub AreKnown : FormatKind → List ℕ → List Operand → List ℕ → List ℕ → Type 0
AreKnown kind letters os values known = (k : ℕ) → k < 10 → (slice_index known k ≡ slice_index values k) ⊎ (tells letters (fields_of kind values) os k ≡ true)

-- the operands are written of the values, behind a separator, and the line ends
pub record AreWritten (kind : FormatKind) (a separator : ℕ) (letters : List ℕ) (os : List Operand) (values text more : List ℕ) : Type 0 where
  pub fit : SlotsFit (layout_of kind) values
  pub suit : all_suit kind os ≡ true
  pub order : is_in_order os ≡ true
  pub text_is : text ≡ operands_text separator a letters (fields_of kind values) os ++ (10 ∷ more)

-- where operands are written, and tell what isn't known, the values are read
abbrev pub AreRead : FormatKind → ℕ → List Operand → List ℕ → List ℕ → List ℕ → Type 0
AreRead kind a os text before after =
    (letters values more : List ℕ) → AreWritten kind a 32 letters os values text more → AreKnown kind letters os values before → after ≡ values
