-- Symbols and relocations ("ELF-64 Object File Format", "Symbol Table" and "Relocations").
use Rattle.std.specs.Prelude.{ℕ, ◌^◌, ◌/◌, ◌%◌, ℤ, Bool, cond, ◌&&◌, nat_eq, List, [], ◌∷◌, map, length, slice_index_or}
use Rattle.std.specs.Str.{bytes_eq}
use Rattle.std.specs.Int.{w64, cast_signed}
use Rattle.s390x_elf.specs.Reading.{byte, half, word, doubleword_at, text_at, pieces}
use Rattle.s390x_elf.specs.File.{Section, null_section}

-- a symbol: its name in place of the name's offset, and the two halves of `st_info`
pub record Symbol : Type 0 where
  pub name : List ℕ
  pub binding : ℕ
  pub kind : ℕ
  pub st_other : ℕ
  pub st_shndx : ℕ
  pub st_value : ℕ
  pub st_size : ℕ

-- the symbol of an entry, the names standing in a string table
abbrev pub symbol : (names entry : List ℕ) → Symbol
symbol names entry = record {
  name = text_at names (word entry 0);
  binding = byte entry 4 / 16;
  kind = byte entry 4 % 16;
  st_other = byte entry 5;
  st_shndx = half entry 6;
  st_value = doubleword_at entry 8;
  st_size = doubleword_at entry 16;
}

-- the symbol with the number 0, which stands for none
abbrev pub null_symbol : Symbol
null_symbol = record { name = []; binding = 0; kind = 0; st_other = 0; st_shndx = 0; st_value = 0; st_size = 0 }

-- a relocation: a symbol in place of the symbol's number
pub record Relocation : Type 0 where
  pub r_offset : ℕ
  pub r_type : ℕ
  pub r_sym : Symbol
  pub r_addend : ℤ

-- the relocation of an entry, by the symbols of its table
abbrev pub relocation : (symbols : List Symbol) (entry : List ℕ) → Relocation
relocation symbols entry = record {
  r_offset = doubleword_at entry 0;
  r_type = doubleword_at entry 8 % 2 ^ 32;
  r_sym = slice_index_or symbols (doubleword_at entry 8 / 2 ^ 32) null_symbol;
  r_addend = cast_signed w64 (doubleword_at entry 16);
}

-- the first section that passes a test; the one with the number 0 where none does
abbrev pub first_section : (Section → Bool) → List Section → Section
first_section p [] = null_section
first_section p (s ∷ ss) = cond (p s) s (first_section p ss)

-- the section with a number
abbrev pub section_at : List Section → ℕ → Section
section_at ss n = slice_index_or ss n null_section

-- the section with a name
abbrev pub named_section : List Section → List ℕ → Section
named_section ss name = first_section (λ (s : Section). bytes_eq name s.name) ss

-- the entries of a section that is a table
abbrev pub entries : Section → List (List ℕ)
entries s = pieces s.sh_entsize (length s.content / s.sh_entsize) s.content

-- the symbols of a section that is a symbol table: their names stand in the section to which it links
abbrev pub symbols_in : List Section → Section → List Symbol
symbols_in ss s = map (symbol (section_at ss s.sh_link).content) (entries s)

-- the section of type 2, `SHT_SYMTAB`
abbrev pub symbol_table : List Section → Section
symbol_table ss = first_section (λ (s : Section). nat_eq s.sh_type 2) ss

-- the symbols by their numbers
unfoldable pub symbols_of : List Section → List Symbol
symbols_of ss = symbols_in ss (symbol_table ss)

-- the section of type 4, `SHT_RELA`, for the section with a name, whose number it tells
abbrev pub relocation_table : List Section → List ℕ → Section
relocation_table ss name = first_section (λ (s : Section). nat_eq s.sh_type 4 && bytes_eq name (section_at ss s.sh_info).name) ss

-- the relocations for the section with a name, by the symbols of the section to which their table links
unfoldable pub relocations_for : List Section → List ℕ → List Relocation
relocations_for ss name = let table = relocation_table ss name in map (relocation (symbols_in ss (section_at ss table.sh_link))) (entries table)
