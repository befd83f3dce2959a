-- What the laws say of files.
use Rattle.std.specs.Prelude.{◌≡◌, ℕ, ◌+◌, ◌<◌, ◌^◌, List, [], ◌∷◌, ◌++◌, length, map}
use Rattle.std.specs.List.{All}
use Rattle.s390x_buffer.specs.declared.entries.RelocEntry.{RelocEntry}
use Rattle.s390x_elf.specs.declared.members.ObjectMember.{ObjectMember}
use Rattle.s390x_elf.specs.declared.names.GivenName.{GivenName}
use Rattle.s390x_elf.specs.Members.{IsLinkedAsMembers, IsObjectOfMembers}
use Rattle.s390x_elf.specs.Reading.{pieces}
use Rattle.s390x_elf.specs.File.{Section, sections, null_section}
use Rattle.s390x_elf.specs.Symbols.{Symbol, null_symbol, symbol, relocation}
use Rattle.s390x_elf.specs.Names.{Naming}
use Rattle.s390x_elf.specs.Object.{Function, IsLinkedAsFilled, IsObjectOf, relocation_of, string_table}
use Rattle.s390x_elf.specs.Tables.{SymbolFits, RelocFits, symbol_entries, relocation_entries}
use Rattle.s390x_elf.specs.Writing.{file_bytes, names_section, FieldsFit}

-- a file of sections is read as these sections, with the one with the number 0 before them and the one with the names behind them
abbrev pub FilesReadBack : Type 0
FilesReadBack =
    (ss : List Section) → length ss + 2 < 2 ^ 16 → length (file_bytes ss) < 2 ^ 64 → length (names_section ss).content < 2 ^ 32 → All FieldsFit ss → sections (file_bytes ss) ≡ null_section ∷ (ss ++ names_section ss ∷ [])

-- symbols are read from their entries, where their names stand in a string table
abbrev pub SymbolsReadBack : Type 0
SymbolsReadBack =
    (ss : List Symbol) → length (0 ∷ string_table ss) < 2 ^ 32 → All SymbolFits ss → map (symbol (0 ∷ string_table ss)) (pieces 24 (length ss) (symbol_entries 1 ss)) ≡ ss

-- relocations are read from their entries
abbrev pub RelocationsReadBack : Type 0
RelocationsReadBack =
    (named : Naming) (ss : List Symbol) → length ss < 2 ^ 32 → (rs : List RelocEntry) → All RelocFits rs → map (relocation (null_symbol ∷ ss)) (pieces 24 (length rs) (relocation_entries named ss rs)) ≡ map (relocation_of named ss) rs

-- what is read as an object is linked as its relocations fill it
abbrev pub ObjectsLinkAsFilled : Type 0
ObjectsLinkAsFilled =
    (named : Naming) (fs : List Function) (alignment : ℕ) (bytes : List ℕ) (rs : List RelocEntry) (file : List ℕ) → IsObjectOf named fs alignment bytes rs file → IsLinkedAsFilled named fs bytes rs file

-- what is read as the object of members is linked as they are
abbrev pub MembersLinkAsImages : Type 0
MembersLinkAsImages =
    (names : List GivenName) (ms : List ObjectMember) (file : List ℕ) → IsObjectOfMembers names ms file → IsLinkedAsMembers names ms file
