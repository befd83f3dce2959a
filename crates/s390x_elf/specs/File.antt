-- The file's header and its sections ("ELF-64 Object File Format", "ELF Header" and "Sections").
use Rattle.std.specs.Prelude.{ℕ, List, [], take, drop, map, slice_index_or}
use Rattle.s390x_elf.specs.Reading.{half, word, doubleword_at, text_at, pieces}

pub record FileHeader : Type 0 where
  pub e_ident : List ℕ
  pub e_type : ℕ
  pub e_machine : ℕ
  pub e_version : ℕ
  pub e_entry : ℕ
  pub e_phoff : ℕ
  pub e_shoff : ℕ
  pub e_flags : ℕ
  pub e_ehsize : ℕ
  pub e_phentsize : ℕ
  pub e_phnum : ℕ
  pub e_shentsize : ℕ
  pub e_shnum : ℕ
  pub e_shstrndx : ℕ

-- the header at the front of a file
unfoldable pub file_header : List ℕ → FileHeader
file_header file = record {
  e_ident = take 16 file;
  e_type = half file 16;
  e_machine = half file 18;
  e_version = word file 20;
  e_entry = doubleword_at file 24;
  e_phoff = doubleword_at file 32;
  e_shoff = doubleword_at file 40;
  e_flags = word file 48;
  e_ehsize = half file 52;
  e_phentsize = half file 54;
  e_phnum = half file 56;
  e_shentsize = half file 58;
  e_shnum = half file 60;
  e_shstrndx = half file 62;
}

-- a section: its name in place of the name's offset, and its content in place of that one's offset and size
pub record Section : Type 0 where
  pub name : List ℕ
  pub sh_type : ℕ
  pub sh_flags : ℕ
  pub sh_addr : ℕ
  pub sh_link : ℕ
  pub sh_info : ℕ
  pub sh_addralign : ℕ
  pub sh_entsize : ℕ
  pub content : List ℕ

-- the part of a file that a section's header tells
abbrev pub content_of : (file header : List ℕ) → List ℕ
content_of file header = take (doubleword_at header 32) (drop (doubleword_at header 24) file)

-- the section of a header in a file, the names standing in a string table
abbrev pub section : (file names header : List ℕ) → Section
section file names header = record {
  name = text_at names (word header 0);
  sh_type = word header 4;
  sh_flags = doubleword_at header 8;
  sh_addr = doubleword_at header 16;
  sh_link = word header 40;
  sh_info = word header 44;
  sh_addralign = doubleword_at header 48;
  sh_entsize = doubleword_at header 56;
  content = content_of file header;
}

-- the sections' headers
abbrev pub section_headers : List ℕ → List (List ℕ)
section_headers file = let h = file_header file in pieces h.e_shentsize h.e_shnum (drop h.e_shoff file)

-- the string table of the sections' names
abbrev pub section_names : List ℕ → List ℕ
section_names file = content_of file (slice_index_or (section_headers file) (file_header file).e_shstrndx [])

-- the sections by their numbers
unfoldable pub sections : List ℕ → List Section
sections file = map (section file (section_names file)) (section_headers file)

-- the section with the number 0, which stands for none
abbrev pub null_section : Section
null_section = record { name = []; sh_type = 0; sh_flags = 0; sh_addr = 0; sh_link = 0; sh_info = 0; sh_addralign = 0; sh_entsize = 0; content = [] }
