-- Why functions in a text are not made an object.
use Rattle.std.specs.Prelude.{◌≡◌, ◌⊎◌, string_bytes, ℕ, ◌+◌, cond, is_some, nat_eq, nat_le, Option, Some, None, List, [], ◌∷◌, ◌++◌, length}
use Rattle.std.specs.List.{list_any}
use Rattle.s390x_buffer.specs.declared.entries.RelocEntry.{RelocEntry}
use Rattle.s390x_buffer.specs.declared.entries.MachBufferFinalized.{MachBufferFinalized}
use Rattle.s390x_elf.specs.declared.error.ObjectError.{ObjectError}
use Rattle.s390x_elf.specs.declared.error.ObjectError.TheVariants.{EmptyName, ZeroByte, DuplicateName, EmptyMember, TooLong, NoMemory}
use Rattle.s390x_elf.specs.declared.names.GivenName.{GivenName}
use Rattle.s390x_elf.specs.Names.{name_in}
use Rattle.s390x_elf.specs.Symbols.{Symbol}
use Rattle.s390x_elf.specs.Object.{Function, function_symbol, place, global_symbols, string_table, whole_function}

-- the first of two causes
abbrev pub first_cause : Option ObjectError → Option ObjectError → Option ObjectError
first_cause None later = later
first_cause (Some e) later = Some e

-- why a name is none of a function: it is empty, or has a zero byte
abbrev pub name_cause : List ℕ → Option ObjectError
name_cause name = cond (nat_eq (length name) 0) (Some EmptyName) (cond (list_any (λ (b : ℕ). nat_eq b 0) name) (Some ZeroByte) None)

-- why a function doesn't stand behind others: its name is none, or an earlier one's, or it has no bytes
abbrev pub function_cause : (earlier : List Symbol) → Function → Option ObjectError
function_cause earlier f =
    first_cause (name_cause f.name) (cond (is_some (place earlier f.name)) (Some DuplicateName) (cond (nat_eq f.size 0) (Some EmptyMember) None))

-- the first cause of functions behind others
abbrev pub functions_cause : (earlier : List Symbol) → List Function → Option ObjectError
functions_cause earlier [] = None
functions_cause earlier (f ∷ fs) = first_cause (function_cause earlier f) (functions_cause (earlier ++ function_symbol f ∷ []) fs)

-- the names, each with a zero behind it, and the empty one take fewer than 2 ^ 32 bytes
abbrev pub names_cause : List Symbol → Option ObjectError
names_cause ss = cond (nat_le 4294967296 (1 + length (string_table ss))) (Some TooLong) None

-- the first given name that is none of a symbol, and why
abbrev pub given_cause : List GivenName → Option ObjectError
given_cause [] = None
given_cause (g ∷ gs) = first_cause (name_cause (string_bytes g.name)) (given_cause gs)

-- why functions in a text with relocations, some of whose symbols are given names, are not made an object
abbrev pub text_cause : List GivenName → List Function → List RelocEntry → Option ObjectError
text_cause names fs rs = first_cause (functions_cause [] fs) (first_cause (given_cause names) (names_cause (global_symbols (name_in names) fs rs)))

-- why finished code, some of whose symbols are given names, is not made an object with its function by this name
abbrev pub named_object_cause : List GivenName → (name : List ℕ) → MachBufferFinalized → Option ObjectError
named_object_cause names name code = text_cause names (whole_function name code) code.relocs.items

abbrev pub object_cause : (name : List ℕ) → MachBufferFinalized → Option ObjectError
object_cause name code = named_object_cause [] name code

-- the error is the cause, or want of memory
abbrev pub IsCause : Option ObjectError → ObjectError → Type 0
IsCause cause e = (e ≡ NoMemory) ⊎ (cause ≡ Some e)
