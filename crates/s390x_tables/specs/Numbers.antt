-- The numbers by which the tables know kinds of relocation and trap codes.
use Rattle.std.specs.Prelude.{ℕ, Option, Some, None}
use Rattle.s390x_base.specs.declared.ir.Reloc.{Reloc}
use Rattle.s390x_base.specs.declared.ir.Reloc.TheVariants.{S390xPCRel32Dbl, S390xPLTRel32Dbl, Abs8}
use Rattle.s390x_base.specs.declared.trap.TrapKind.{TrapKind}
use Rattle.s390x_base.specs.declared.trap.TrapKind.TheVariants.{StackOverflow, IntegerOverflow, HeapOutOfBounds, IntegerDivisionByZero, BadConversionToInteger, User}

-- the number of a kind of relocation: R_390_PC32DBL, R_390_PLT32DBL, R_390_64
abbrev pub number_of_reloc : Reloc → ℕ
number_of_reloc S390xPCRel32Dbl = 19
number_of_reloc S390xPLTRel32Dbl = 20
number_of_reloc Abs8 = 22

-- the number of a trap code: a user's own, and 251 to 255 for the named ones
abbrev pub number_of_trap : TrapKind → ℕ
number_of_trap (User number) = number
number_of_trap StackOverflow = 251
number_of_trap IntegerOverflow = 252
number_of_trap HeapOutOfBounds = 253
number_of_trap IntegerDivisionByZero = 254
number_of_trap BadConversionToInteger = 255

-- whether there is a tag
abbrev pub tag_count : Option ℕ → ℕ
tag_count None = 0
tag_count (Some tag) = 1

-- a tag, 0 for none
abbrev pub tag_or_zero : Option ℕ → ℕ
tag_or_zero None = 0
tag_or_zero (Some tag) = tag
