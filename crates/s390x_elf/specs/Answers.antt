-- What the public calls answer.
use Rattle.std.specs.Prelude.{◌≡◌, ℕ, ◌<◌, ◌^◌, List, [], ◌++◌, Option, None, length, map, Result, MatchResult, Vec}
use Rattle.std.specs.declared.alloc.Global.{Global}
use Rattle.s390x_buffer.specs.declared.entries.RelocEntry.{RelocEntry}
use Rattle.s390x_buffer.specs.declared.entries.MachBufferFinalized.{MachBufferFinalized}
use Rattle.s390x_elf.specs.declared.error.ObjectError.{ObjectError}
use Rattle.s390x_elf.specs.declared.file.SectionParts.{SectionParts}
use Rattle.s390x_elf.specs.declared.metadata.Coded.{Coded}
use Rattle.s390x_elf.specs.File.{Section}
use Rattle.s390x_elf.specs.declared.names.GivenName.{GivenName}
use Rattle.s390x_elf.specs.declared.symbols.GlobalSymbols.{GlobalSymbols}
use Rattle.s390x_elf.specs.declared.members.Text.{Text}
use Rattle.s390x_elf.specs.declared.symbols.TextFunction.{TextFunction}
use Rattle.s390x_elf.specs.declared.members.ObjectMember.{ObjectMember}
use Rattle.s390x_elf.specs.Members.{HasMember, IsObjectOfMembers, IsTextOfMembers, end_of, members_cause, place_cause, places_cause}
use Rattle.s390x_elf.specs.Names.{name_in}
use Rattle.s390x_elf.specs.Object.{Function, IsNamedObject, IsObjectOf, IsLinkedAsFilled, function_of, function_symbol}
use Rattle.s390x_elf.specs.Causes.{IsCause, functions_cause, named_object_cause, text_cause}
use Rattle.s390x_elf.specs.TableBytes.{MetadataFits, codes_of, metadata_sections}
use Rattle.s390x_elf.specs.Tables.{AreObjectSections, symbol_of}
use Rattle.s390x_elf.specs.Writing.{file_bytes, section_of}

-- Ok exactly where there is no cause, and then the file is so; Err exactly with the cause, or for want of memory
abbrev pub FileAnswer : (cause : Option ObjectError) (IsFile : List ℕ → Type 0) → Result (Vec ℕ Global) ObjectError → Type 0
FileAnswer cause IsFile result = MatchResult result (λ file. (cause ≡ None) × IsFile file.items) (IsCause cause)

-- the object of finished code with its function by this name, some of whose symbols are given names
abbrev pub ObjectAnswer : List GivenName → (name : List ℕ) → MachBufferFinalized → Result (Vec ℕ Global) ObjectError → Type 0
ObjectAnswer names name code result = FileAnswer (named_object_cause names name code) (IsNamedObject names name code) result

-- the object of functions in a text with relocations, some of whose symbols are given names
abbrev pub TextAnswer : List GivenName → List TextFunction → (alignment : ℕ) (text : List ℕ) → List RelocEntry → Result (Vec ℕ Global) ObjectError → Type 0
TextAnswer names functions alignment text rs result =
    let fs = map function_of functions in FileAnswer (text_cause names fs rs) (IsObjectOf (name_in names) fs alignment text rs) result

-- the sections of that object
abbrev pub SectionsAnswer : List GivenName → List TextFunction → (alignment : ℕ) (text : List ℕ) → List RelocEntry → Result (Vec SectionParts Global) ObjectError → Type 0
SectionsAnswer names functions alignment text rs result =
    let fs = map function_of functions in
    let cause = text_cause names fs rs in
    MatchResult result (λ ss. (cause ≡ None) × AreObjectSections (name_in names) fs alignment text rs (map section_of ss.items)) (IsCause cause)

-- a file of sections with the tables of code behind them
pub record IsFileWithTables (ss : List Section) (all : List MachBufferFinalized) (file : List ℕ) : Type 0 where
  pub bytes : file ≡ file_bytes (ss ++ metadata_sections all)
  pub size : length file < 2 ^ 64
  pub fits : MetadataFits all

abbrev pub IsFileOf : Vec SectionParts Global → List Coded → (file : List ℕ) → Type 0
IsFileOf sections codes file = IsFileWithTables (map section_of sections.items) (codes_of codes) file

-- it is linked as the relocations fill it
abbrev pub IsTextLinked : List GivenName → List TextFunction → (text : List ℕ) → List RelocEntry → (file : List ℕ) → Type 0
IsTextLinked names functions text rs file = IsLinkedAsFilled (name_in names) (map function_of functions) text rs file

-- the symbols of functions
abbrev pub FunctionsAnswer : List Function → Result GlobalSymbols ObjectError → Type 0
FunctionsAnswer fs result = let cause = functions_cause [] fs in MatchResult result (λ ss. (cause ≡ None) × (map symbol_of ss.symbols.items ≡ map function_symbol fs)) (IsCause cause)

-- one more member in a text behind the others, and where it ends
abbrev pub MemberAnswer : (end : Option ℕ) → ObjectMember → (old new : Text) → Result ℕ ObjectError → Type 0
MemberAnswer end m old new result =
    let cause = place_cause end m in MatchResult result (λ behind. (cause ≡ None) × (behind ≡ end_of end m) × HasMember end m old new) (IsCause cause)

-- the text of members
abbrev pub TextOfMembersAnswer : List ObjectMember → Result Text ObjectError → Type 0
TextOfMembersAnswer ms result = let cause = places_cause None ms in MatchResult result (λ text. (cause ≡ None) × IsTextOfMembers ms text) (IsCause cause)

-- the object of members, some of whose symbols are given names
abbrev pub MembersAnswer : List GivenName → List ObjectMember → Result (Vec ℕ Global) ObjectError → Type 0
MembersAnswer names ms result = FileAnswer (members_cause names ms) (IsObjectOfMembers names ms) result
