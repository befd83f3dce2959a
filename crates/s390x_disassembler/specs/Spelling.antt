-- The letters that masks choose at the end of a mnemonic.
use Rattle.std.specs.Prelude.{ℕ, ◌+◌, ◌*◌, List, [], map, get_or, slice_index}
use Rattle.s390x_format.specs.declared.fields.Fields.{Fields}
use Rattle.s390x_format.specs.declared.spelling.Suffix.{Suffix}
use Rattle.s390x_format.specs.declared.spelling.Suffix.TheVariants.{Plain, Size, ThirdSize, HalfwordSize, SizeAndCode, Condition, Trap, Jump, Return}
use Rattle.s390x_disassembler.specs.declared.spelling.TheConstants.{SIZES, HALFWORD_SIZES, SIZES_AND_CODES, CONDITIONS, TRAPS, JUMPS, RETURNS}

-- the name at a place of a table
unfoldable pub name_in : List (List ℕ) → ℕ → List ℕ
name_in names at = get_or names at []

-- the names of a table
abbrev pub names_in : List (record { now : List ℕ }) → List (List ℕ)
names_in names = map (λ name. name.now) names

-- the letters for the values of a mask, from 0 on
abbrev pub letters_for : Suffix → List (List ℕ)
letters_for Plain = []
letters_for Size = names_in SIZES
letters_for ThirdSize = names_in SIZES
letters_for HalfwordSize = names_in HALFWORD_SIZES
letters_for SizeAndCode = names_in SIZES_AND_CODES
letters_for Condition = names_in CONDITIONS
letters_for Trap = names_in TRAPS
letters_for Jump = names_in JUMPS
letters_for Return = names_in RETURNS

-- the value that chooses: a mask, or two in one number, or the mask in the first register's field
abbrev pub choice : Suffix → Fields → ℕ
choice ThirdSize f = slice_index f.masks 2
choice SizeAndCode f = slice_index f.masks 0 + 8 * slice_index f.masks 1
choice Return f = slice_index f.regs 0
choice _ f = slice_index f.masks 0

-- the letters that the fields choose; none where the value stands among the operands
unfoldable pub letters_of : Suffix → Fields → List ℕ
letters_of s f = name_in (letters_for s) (choice s f)
