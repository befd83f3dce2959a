-- The bytes of tables of symbols and of relocations.
use Rattle.std.specs.Prelude.{◌≡◌, ℕ, suc, ◌+◌, ◌*◌, ◌^◌, ◌<◌, Option, Some, None, List, [], ◌∷◌, ◌++◌, length, codes, String, string_bytes, FitsSigned}
use Rattle.std.specs.List.{All, flat_map}
use Rattle.std.specs.Int.{w64, cast_unsigned}
use Rattle.std.specs.BTreeMap.{BTreeMap, get_by_text}
use Rattle.s390x_buffer.specs.declared.entries.RelocEntry.{RelocEntry}
use Rattle.s390x_elf.specs.declared.fields.Field.TheVariants.{Half, Word, Wide}
use Rattle.s390x_elf.specs.declared.symbols.Extent.{Extent}
use Rattle.s390x_elf.specs.declared.symbols.GlobalSymbol.{GlobalSymbol}
use Rattle.s390x_elf.specs.Reading.{IsText}
use Rattle.s390x_elf.specs.File.{Section}
use Rattle.s390x_elf.specs.Symbols.{Symbol, null_symbol}
use Rattle.s390x_elf.specs.Names.{Naming}
use Rattle.s390x_elf.specs.Object.{Function, function_symbol, undefined_symbol, place, type_of, global_symbols, string_table, text_section, stack_note}
use Rattle.s390x_elf.specs.Writing.{fields_bytes, string_section}

-- a global symbol as the program has it
abbrev pub symbol_at : Option Extent → Symbol
symbol_at None = undefined_symbol []
symbol_at (Some e) = function_symbol (record { name = []; start = e.start; size = e.size })

abbrev pub symbol_of : GlobalSymbol → Symbol
symbol_of s = record (symbol_at s.extent) { name = string_bytes s.name }

-- a map has the place of each name among symbols
abbrev pub Indexes : {Y : Type 0} → BTreeMap (String Y) ℕ → List Symbol → Type 0
Indexes places ss = (name : List ℕ) → get_by_text places name ≡ place ss name

-- the number behind a place; 0 for none
abbrev pub number_behind : Option ℕ → ℕ
number_behind None = 0
number_behind (Some n) = suc n

-- the number of the symbol with a name, where these stand behind the one that stands for none
abbrev pub symbol_number : List Symbol → List ℕ → ℕ
symbol_number ss name = number_behind (place ss name)

-- the entry of a symbol, whose name stands at an offset of the string table
abbrev pub symbol_entry : (name_at : ℕ) → Symbol → List ℕ
symbol_entry name_at s = fields_bytes (Word name_at ∷ Half (256 * (16 * s.binding + s.kind) + s.st_other) ∷ Half s.st_shndx ∷ Wide s.st_value ∷ Wide s.st_size ∷ [])

-- the entries of symbols, the name of the first of which stands at an offset
abbrev pub symbol_entries : (name_at : ℕ) → List Symbol → List ℕ
symbol_entries name_at [] = []
symbol_entries name_at (s ∷ ss) = symbol_entry name_at s ++ symbol_entries (name_at + (length s.name + 1)) ss

-- a symbol's numbers fit their fields, and its name has no zero
pub record SymbolFits (s : Symbol) : Type 0 where
  pub name : IsText s.name
  pub binding : s.binding < 16
  pub kind : s.kind < 16
  pub st_other : s.st_other < 256
  pub st_shndx : s.st_shndx < 2 ^ 16
  pub st_value : s.st_value < 2 ^ 64
  pub st_size : s.st_size < 2 ^ 64

-- the entry of a relocation, where these symbols stand behind the one that stands for none
abbrev pub relocation_entry : Naming → List Symbol → RelocEntry → List ℕ
relocation_entry named ss r =
    fields_bytes (Wide r.offset ∷ Wide (symbol_number ss (named r.name) * 4294967296 + type_of r.kind) ∷ Wide (cast_unsigned w64 r.addend) ∷ [])

abbrev pub relocation_entries : Naming → List Symbol → List RelocEntry → List ℕ
relocation_entries named ss rs = flat_map (relocation_entry named ss) rs

-- a relocation's numbers fit their types
pub record RelocFits (r : RelocEntry) : Type 0 where
  pub offset : r.offset < 2 ^ 32
  pub name : r.name.0 < 2 ^ 32
  pub addend : FitsSigned w64 r.addend

-- a function's numbers fit their types
pub record FunctionFits (f : Function) : Type 0 where
  pub start : f.start < 2 ^ 64
  pub size : f.size < 2 ^ 64

-- the table of symbols: `SHT_SYMTAB`, whose names stand in the fourth section, the first symbol being local
abbrev pub symbol_section : List ℕ → Section
symbol_section entries = record { name = codes ".symtab"; sh_type = 2; sh_flags = 0; sh_addr = 0; sh_link = 4; sh_info = 1; sh_addralign = 8; sh_entsize = 24; content = entries }

-- the table of relocations: `SHT_RELA`, by the symbols of the first section, for the third one
abbrev pub relocation_section : List ℕ → Section
relocation_section entries = record { name = codes ".rela.text"; sh_type = 4; sh_flags = 64; sh_addr = 0; sh_link = 1; sh_info = 3; sh_addralign = 8; sh_entsize = 24; content = entries }

-- the sections of an object with these contents
abbrev pub sections_with : (alignment : ℕ) (entries relocations text names : List ℕ) → List Section
sections_with alignment entries relocations text names =
    symbol_section entries ∷ relocation_section relocations ∷ text_section alignment text ∷ string_section (codes ".strtab") names ∷ stack_note ∷ []

-- the sections of an object of a text with these global symbols and entries of relocations
abbrev pub sections_by : List Symbol → (alignment : ℕ) (relocations text : List ℕ) → List Section
sections_by ss alignment relocations text = sections_with alignment (symbol_entry 0 null_symbol ++ symbol_entries 1 ss) relocations text (0 ∷ string_table ss)

-- the sections of an object of a text with these global symbols and the entries of these relocations
abbrev pub object_sections : Naming → List Symbol → (alignment : ℕ) (text : List ℕ) → List RelocEntry → List Section
object_sections named ss alignment text rs = sections_by ss alignment (relocation_entries named ss rs) text

-- sections are those of an object of functions in a text with relocations, and its numbers fit their fields
pub record AreObjectSections (named : Naming) (fs : List Function) (alignment : ℕ) (bytes : List ℕ) (rs : List RelocEntry) (ss : List Section) : Type 0 where
  pub sections : ss ≡ object_sections named (global_symbols named fs rs) alignment bytes rs
  pub symbols_fit : All SymbolFits (global_symbols named fs rs)
  pub relocations_fit : All RelocFits rs
  pub names_fit : length (0 ∷ string_table (global_symbols named fs rs)) < 2 ^ 32
  pub alignment_fits : alignment < 2 ^ 64
