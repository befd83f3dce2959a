-- The bytes of tables of metadata, and the sections that have them.
use Rattle.std.specs.Prelude.{◌≡◌, ℕ, ◌+◌, ◌*◌, ◌<◌, ◌^◌, cond, true, List, [], ◌∷◌, ◌++◌, length, map, codes, Vec}
use Rattle.std.specs.declared.alloc.Global.{Global}
use Rattle.std.specs.List.{All, flat_map, list_any}
use Rattle.std.specs.Int.{w64, to_be_bytes}
use Rattle.s390x_buffer.specs.declared.entries.MachBufferFinalized.{MachBufferFinalized}
use Rattle.s390x_elf.specs.declared.fields.Field.TheVariants.{Wide}
use Rattle.s390x_elf.specs.declared.metadata.Coded.{Coded}
use Rattle.s390x_elf.specs.declared.metadata.Table.{Table}
use Rattle.s390x_elf.specs.declared.metadata.TableKind.{TableKind}
use Rattle.s390x_elf.specs.declared.metadata.TableKind.TheVariants.{Traps, Calls, Tries, Handlers, Patches, StackMaps}
use Rattle.s390x_elf.specs.File.{Section}
use Rattle.s390x_elf.specs.Metadata.{has_entries, part, parts, table_name}
use Rattle.s390x_elf.specs.declared.file.SectionParts.{SectionParts}
use Rattle.s390x_elf.specs.Writing.{fields_bytes, section_of}

-- the code that is referred to
abbrev pub code_of : Coded → MachBufferFinalized
code_of c = c.code.now

abbrev pub codes_of : List Coded → List MachBufferFinalized
codes_of cs = map code_of cs

-- numbers of eight bytes each
abbrev pub wides : List ℕ → List ℕ
wides ns = flat_map (to_be_bytes w64) ns

-- the entry of a part's relocation: the part starts there, and its function's symbol has this number
abbrev pub part_entry : (at function : ℕ) → List ℕ
part_entry at function = fields_bytes (Wide at ∷ Wide (function * 4294967296 + 23) ∷ Wide 0 ∷ [])

-- those of functions, the first of which has this number and its part there
abbrev pub part_entries : TableKind → (at function : ℕ) → List MachBufferFinalized → List ℕ
part_entries kind at function [] = []
part_entries kind at function (code ∷ all) = part_entry at function ++ part_entries kind (at + length (wides (part kind code))) (function + 1) all

-- a number of eight bytes
abbrev pub IsWide : ℕ → Type 0
IsWide n = n < 2 ^ 64

-- a table with one more part behind the others, of a function whose symbol has this number
pub record HasPart (kind : TableKind) (code : MachBufferFinalized) (function : ℕ) (old new : Table) : Type 0 where
  pub content : new.content.items ≡ old.content.items ++ wides (part kind code)
  pub relocations : new.relocations.items ≡ old.relocations.items ++ part_entry (length old.content.items) function
  pub fits : All IsWide (part kind code)

-- the numbers of a kind's table fit their fields
pub record TableFits (all : List MachBufferFinalized) (kind : TableKind) : Type 0 where
  pub numbers : All IsWide (parts kind all)
  pub size : length (wides (parts kind all)) < 2 ^ 64

-- the table of a kind of functions with this code, whose symbols have the numbers from 1 on
pub record IsTable (kind : TableKind) (all : List MachBufferFinalized) (table : Table) : Type 0 where
  pub content : table.content.items ≡ wides (parts kind all)
  pub relocations : table.relocations.items ≡ part_entries kind 0 1 all
  pub fits : TableFits all kind

-- the section of a kind's relocations
abbrev pub table_relocations_name : TableKind → List ℕ
table_relocations_name Traps = codes ".relas390x_traps"
table_relocations_name Calls = codes ".relas390x_calls"
table_relocations_name Tries = codes ".relas390x_tries"
table_relocations_name Handlers = codes ".relas390x_handlers"
table_relocations_name Patches = codes ".relas390x_patches"
table_relocations_name StackMaps = codes ".relas390x_stack_maps"

-- the number of a kind's section; its relocations have the next one
abbrev pub table_number : TableKind → ℕ
table_number Traps = 6
table_number Calls = 8
table_number Tries = 10
table_number Handlers = 12
table_number Patches = 14
table_number StackMaps = 16

-- the two sections of a kind
abbrev pub table_section : TableKind → (content : List ℕ) → Section
table_section kind content = record { name = table_name kind; sh_type = 1; sh_flags = 2; sh_addr = 0; sh_link = 0; sh_info = 0; sh_addralign = 8; sh_entsize = 0; content = content }

abbrev pub table_relocation_section : TableKind → (entries : List ℕ) → Section
table_relocation_section kind entries = record { name = table_relocations_name kind; sh_type = 4; sh_flags = 64; sh_addr = 0; sh_link = 1; sh_info = table_number kind; sh_addralign = 8; sh_entsize = 24; content = entries }

abbrev pub table_sections : List MachBufferFinalized → TableKind → List Section
table_sections all kind = table_section kind (wides (parts kind all)) ∷ table_relocation_section kind (part_entries kind 0 1 all) ∷ []

abbrev pub kinds_sections : List MachBufferFinalized → List TableKind → List Section
kinds_sections all kinds = flat_map (table_sections all) kinds

-- the kinds in the order of their sections
abbrev pub all_kinds : List TableKind
all_kinds = Traps ∷ Calls ∷ Tries ∷ Handlers ∷ Patches ∷ StackMaps ∷ []

-- the sections of metadata: of all kinds where some code has an entry of any kind, and else none
abbrev pub metadata_sections : List MachBufferFinalized → List Section
metadata_sections all = cond (list_any has_entries all) (kinds_sections all all_kinds) []

-- where there are such sections, their numbers fit their fields
abbrev pub MetadataFits : List MachBufferFinalized → Type 0
MetadataFits all = list_any has_entries all ≡ true → All (TableFits all) all_kinds

-- sections with others behind them
abbrev pub AddsSections : (old new : Vec SectionParts Global) → List Section → Type 0
AddsSections old new ss = map section_of new.items ≡ map section_of old.items ++ ss
