-- The bytes of a file of given sections: the header, the sections' headers, their contents.
use Rattle.std.specs.Prelude.{ℕ, ◌+◌, ◌*◌, ◌^◌, ◌<◌, List, [], ◌∷◌, ◌++◌, length}
use Rattle.std.specs.List.{All, flat_map}
use Rattle.std.specs.Int.{w16, w32, w64, to_be_bytes}
use Rattle.s390x_elf.specs.declared.fields.Field.{Field}
use Rattle.s390x_elf.specs.declared.fields.Field.TheVariants.{Half, Word, Wide}
use Rattle.s390x_elf.specs.declared.file.SectionParts.{SectionParts}
use Rattle.s390x_elf.specs.File.{Section, null_section}
use Rattle.s390x_elf.specs.Reading.{IsText}

-- the bytes of a field
abbrev pub field_bytes : Field → List ℕ
field_bytes (Half n) = to_be_bytes w16 n
field_bytes (Word n) = to_be_bytes w32 n
field_bytes (Wide n) = to_be_bytes w64 n

abbrev pub fields_bytes : List Field → List ℕ
fields_bytes fields = flat_map field_bytes fields

-- the first sixteen bytes: ELF, 64 bits, the most significant byte first, version 1, System V
abbrev pub ident_bytes : List ℕ
ident_bytes = 127 ∷ 69 ∷ 76 ∷ 70 ∷ 2 ∷ 2 ∷ 1 ∷ 0 ∷ 0 ∷ 0 ∷ 0 ∷ 0 ∷ 0 ∷ 0 ∷ 0 ∷ 0 ∷ []

-- the header of a file with a count of sections and the number of the one with their names
abbrev pub file_header_bytes : (count names : ℕ) → List ℕ
file_header_bytes count names =
    ident_bytes ++ fields_bytes (Half 1 ∷ Half 22 ∷ Word 1 ∷ Wide 0 ∷ Wide 0 ∷ Wide 64 ∷ Word 0 ∷ Half 64 ∷ Half 0 ∷ Half 0 ∷ Half 64 ∷ Half count ∷ Half names ∷ [])

-- a section's header, where its name and its content stand at these offsets
abbrev pub section_header_bytes : (name_at content_at : ℕ) → Section → List ℕ
section_header_bytes name_at content_at s =
    fields_bytes (Word name_at ∷ Word s.sh_type ∷ Wide s.sh_flags ∷ Wide s.sh_addr ∷ Wide content_at ∷ Wide (length s.content) ∷ Word s.sh_link ∷ Word s.sh_info ∷ Wide s.sh_addralign ∷ Wide s.sh_entsize ∷ [])

-- the headers of sections, the first of which has its name and its content at these offsets
abbrev pub header_table : (name_at content_at : ℕ) → List Section → List ℕ
header_table name_at content_at [] = []
header_table name_at content_at (s ∷ ss) =
    section_header_bytes name_at content_at s ++ header_table (name_at + (length s.name + 1)) (content_at + length s.content) ss

-- the names of sections, each with a zero behind it
abbrev pub names_of : List Section → List ℕ
names_of ss = flat_map (λ (s : Section). s.name ++ 0 ∷ []) ss

abbrev pub contents_of : List Section → List ℕ
contents_of ss = flat_map (λ (s : Section). s.content) ss

-- `.shstrtab`
abbrev pub names_name : List ℕ
names_name = 46 ∷ 115 ∷ 104 ∷ 115 ∷ 116 ∷ 114 ∷ 116 ∷ 97 ∷ 98 ∷ []

-- a section of texts
abbrev pub string_section : (name content : List ℕ) → Section
string_section name content = record { name = name; sh_type = 3; sh_flags = 0; sh_addr = 0; sh_link = 0; sh_info = 0; sh_addralign = 1; sh_entsize = 0; content = content }

-- the section with the names of the others and its own
abbrev pub names_section : List Section → Section
names_section ss = string_section names_name ((0 ∷ names_of ss) ++ (names_name ++ 0 ∷ []))

-- the headers' end, where there are sections besides the first and the last
abbrev pub headers_end : ℕ → ℕ
headers_end count = 64 + 64 * (count + 2)

-- a file of these sections, the one with the number 0 before them, and the one with the names behind them
abbrev pub file_bytes : List Section → List ℕ
file_bytes ss =
    let all = ss ++ names_section ss ∷ [] in
    file_header_bytes (length ss + 2) (length ss + 1) ++ (section_header_bytes 0 0 null_section ++ (header_table 1 (headers_end (length ss)) all ++ contents_of all))

-- a section as the program has it
abbrev pub section_of : SectionParts → Section
section_of s = record { name = s.name.now; sh_type = s.kind; sh_flags = s.flags; sh_addr = 0; sh_link = s.link; sh_info = s.info; sh_addralign = s.alignment; sh_entsize = s.entry_size; content = s.content.items }

-- a section's numbers fit their fields, and its name has no zero
pub record FieldsFit (s : Section) : Type 0 where
  pub name : IsText s.name
  pub sh_type : s.sh_type < 2 ^ 32
  pub sh_flags : s.sh_flags < 2 ^ 64
  pub sh_addr : s.sh_addr < 2 ^ 64
  pub sh_link : s.sh_link < 2 ^ 32
  pub sh_info : s.sh_info < 2 ^ 32
  pub sh_addralign : s.sh_addralign < 2 ^ 64
  pub sh_entsize : s.sh_entsize < 2 ^ 64

-- few sections, with short names
pub record AreFew (ss : List Section) : Type 0 where
  pub count : length ss < 100
  pub names : All (λ (s : Section). length s.name < 256) ss
