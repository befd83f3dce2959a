-- What a row and a mnemonic's letters tell of an instruction's values.
use Rattle.std.specs.Prelude.{ℕ, ◌/◌, ◌%◌, Bool, true, false, not, ◌&&◌, ◌||◌, ◌==◌, nat_le, if◌then◌else◌, List, [], ◌∷◌, get_or}
use Rattle.s390x_format.specs.declared.row.MachineRow.{MachineRow}
use Rattle.s390x_format.specs.declared.row.Allowed.{Allowed}
use Rattle.s390x_format.specs.declared.row.Allowed.TheVariants.{FirstMask, CountMode, ComparedLanes, DoublewordPair, BitRange, ReplicatedLane}
use Rattle.s390x_format.specs.Widths.{widths_of}
use Rattle.s390x_disassembler.specs.declared.forms.Operand.{Operand}
use Rattle.s390x_disassembler.specs.declared.forms.Operand.TheVariants.{NonzeroMask, UnnamedMask}
use Rattle.s390x_format.specs.declared.spelling.Form.{Form}
use Rattle.s390x_format.specs.declared.spelling.Suffix.{Suffix}
use Rattle.s390x_format.specs.declared.spelling.Suffix.TheVariants.{Plain, Size, ThirdSize, HalfwordSize, SizeAndCode, Condition, Trap, Jump, Return}
use Rattle.s390x_disassembler.specs.Forms.{operands_of}
use Rattle.s390x_disassembler.specs.Operands.{reads, all_suit, is_in_order}

-- the least first mask that a row allows
abbrev pub least_of : Allowed → ℕ
least_of (FirstMask low high) = low
least_of _ = 0

-- the value in a slot, by the row alone
abbrev pub row_value : MachineRow → ℕ → ℕ
row_value row k = if k == 0 then row.opcode else (if k == 5 then least_of row.allowed else 0)

-- the value in a slot where letters at a place of the suffix's table give it, else the known one
abbrev pub told_value : Suffix → ℕ → ℕ → ℕ → ℕ
told_value Plain p k known = known
told_value ThirdSize p k known = if k == 7 then p else known
told_value SizeAndCode p k known = if k == 5 then p % 8 else (if k == 6 then p / 8 else known)
told_value Return p k known = if k == 1 then p else known
told_value _ p k known = if k == 5 then p else known

abbrev pub start_value : MachineRow → Suffix → ℕ → ℕ → ℕ
start_value row s p k = told_value s p k (row_value row k)

-- the letters are of a slot
abbrev pub is_lettered : Suffix → ℕ → Bool
is_lettered Plain k = false
is_lettered ThirdSize k = k == 7
is_lettered SizeAndCode k = (k == 5) || (k == 6)
is_lettered Return k = k == 1
is_lettered _ k = k == 5

-- an operand that is always written tells the value in a slot
abbrev pub always_tells : List Operand → ℕ → Bool
always_tells [] k = false
always_tells (NonzeroMask ∷ os) k = always_tells os k
always_tells (UnnamedMask ∷ os) k = always_tells os k
always_tells (o ∷ os) k = reads o k || always_tells os k

abbrev pub has_unnamed : List Operand → Bool
has_unnamed [] = false
has_unnamed (UnnamedMask ∷ os) = true
has_unnamed (o ∷ os) = has_unnamed os

abbrev pub has_nonzero : List Operand → Bool
has_nonzero [] = false
has_nonzero (NonzeroMask ∷ os) = true
has_nonzero (o ∷ os) = has_nonzero os

-- a row allows no element size but those that have letters
abbrev pub is_sized : Allowed → Bool
is_sized (FirstMask low high) = nat_le high 4
is_sized ReplicatedLane = true
is_sized _ = false

-- a row allows one value in a slot of a mask
abbrev pub is_pinned : Allowed → ℕ → Bool
is_pinned (FirstMask low high) k = ((k == 5) && (low == high)) || (k == 6) || (k == 7)
is_pinned CountMode k = k == 6
is_pinned DoublewordPair k = (k == 6) || (k == 7)
is_pinned _ k = false

abbrev pub compares_lanes : Allowed → Bool
compares_lanes ComparedLanes = true
compares_lanes _ = false

abbrev pub has_bit_range : Allowed → Bool
has_bit_range BitRange = true
has_bit_range _ = false

-- the letters tell the value in a slot, or an operand does where there are none
abbrev pub letters_tell : MachineRow → Suffix → List Operand → ℕ → Bool
letters_tell row Plain os k = false
letters_tell row Size os k = (k == 5) && is_sized row.allowed
letters_tell row HalfwordSize os k = (k == 5) && is_sized row.allowed
letters_tell row ThirdSize os k = (k == 7) && has_bit_range row.allowed
letters_tell row SizeAndCode os k = ((k == 5) || (k == 6)) && compares_lanes row.allowed
letters_tell row Condition os k = (k == 5) && (get_or (widths_of row.format) 5 0 == 4) && has_unnamed os
letters_tell row Trap os k = (k == 5) && (get_or (widths_of row.format) 5 0 == 4) && has_unnamed os
letters_tell row Jump os k = (k == 5) && (get_or (widths_of row.format) 5 0 == 4)
letters_tell row Return os k = (k == 1) && (get_or (widths_of row.format) 1 0 == 4)

-- the value in a slot is told: an operand does, or the letters, or the row allows one value, or the format has none
abbrev pub is_told : MachineRow → Suffix → List Operand → ℕ → Bool
is_told row s os k =
    always_tells os k || letters_tell row s os k
    || (not (is_lettered s k) && is_pinned row.allowed k)
    || (not (is_lettered s k) && (k == 5) && (least_of row.allowed == 0) && has_nonzero os)
    || (not (is_lettered s k) && (get_or (widths_of row.format) k 0 == 0) && (row_value row k == 0))

-- the values of a row are told by how it is written
abbrev pub is_legible : MachineRow → List ℕ × Suffix × Form → Bool
is_legible row s =
    all_suit row.format (operands_of s.2) && is_in_order (operands_of s.2)
    && is_told row s.1 (operands_of s.2) 1 && is_told row s.1 (operands_of s.2) 2 && is_told row s.1 (operands_of s.2) 3
    && is_told row s.1 (operands_of s.2) 4 && is_told row s.1 (operands_of s.2) 5 && is_told row s.1 (operands_of s.2) 6
    && is_told row s.1 (operands_of s.2) 7 && is_told row s.1 (operands_of s.2) 8 && is_told row s.1 (operands_of s.2) 9

-- each row's are
unfoldable pub are_legible : List MachineRow → List (List ℕ × Suffix × Form) → Bool
are_legible [] ss = true
are_legible (row ∷ rows) [] = false
are_legible (row ∷ rows) (s ∷ ss) = is_legible row s && are_legible rows ss
