-- What an object of finished code is, by reading it.
use Rattle.std.specs.Prelude.{◌≡◌, ℕ, suc, ◌+◌, Option, Some, None, option_map, is_some, Bool, true, false, cond, codes, List, [], ◌∷◌, ◌++◌, length, map, string_bytes}
use Rattle.std.specs.List.{All, flat_map}
use Rattle.std.specs.Str.{bytes_eq}
use Rattle.s390x_base.specs.declared.ir.Reloc.{Reloc}
use Rattle.s390x_base.specs.declared.ir.Reloc.TheVariants.{S390xPCRel32Dbl, S390xPLTRel32Dbl, Abs8}
use Rattle.s390x_buffer.specs.declared.entries.RelocEntry.{RelocEntry}
use Rattle.s390x_buffer.specs.declared.entries.MachBufferFinalized.{MachBufferFinalized}
use Rattle.s390x_image.specs.Symbols.{Symbols, address_of}
use Rattle.s390x_image.specs.Fields.{with_fields_filled}
use Rattle.s390x_image.specs.Causes.{link_cause, relocs_cause}
use Rattle.s390x_elf.specs.declared.names.GivenName.{GivenName}
use Rattle.s390x_elf.specs.declared.symbols.TextFunction.{TextFunction}
use Rattle.s390x_elf.specs.File.{FileHeader, file_header, Section, sections}
use Rattle.s390x_elf.specs.Symbols.{Symbol, null_symbol, Relocation, named_section, symbol_table, symbols_of, relocations_for}
use Rattle.s390x_elf.specs.Linking.{fits_at, linked_text}
use Rattle.s390x_elf.specs.Names.{Naming, name_in}

-- a relocatable file (`ET_REL`) for s390x (`EM_S390`), of 64 bits and with the most significant byte first, of the current version, without segments
pub record IsRelocatable (h : FileHeader) : Type 0 where
  pub ident : h.e_ident ≡ 127 ∷ 69 ∷ 76 ∷ 70 ∷ 2 ∷ 2 ∷ 1 ∷ 0 ∷ 0 ∷ 0 ∷ 0 ∷ 0 ∷ 0 ∷ 0 ∷ 0 ∷ 0 ∷ []
  pub type : h.e_type ≡ 1
  pub machine : h.e_machine ≡ 22
  pub version : h.e_version ≡ 1
  pub entry_point : h.e_entry ≡ 0
  pub flags : h.e_flags ≡ 0
  pub header_size : h.e_ehsize ≡ 64
  pub segments : h.e_phnum ≡ 0
  pub section_header_size : h.e_shentsize ≡ 64

-- the text: `SHT_PROGBITS`, with `SHF_ALLOC` and `SHF_EXECINSTR`
abbrev pub text_section : (alignment : ℕ) (bytes : List ℕ) → Section
text_section alignment bytes = record { name = codes ".text"; sh_type = 1; sh_flags = 6; sh_addr = 0; sh_link = 0; sh_info = 0; sh_addralign = alignment; sh_entsize = 0; content = bytes }

-- the mark that the stack need not be executable
abbrev pub stack_note : Section
stack_note = record { name = codes ".note.GNU-stack"; sh_type = 1; sh_flags = 0; sh_addr = 0; sh_link = 0; sh_info = 0; sh_addralign = 1; sh_entsize = 0; content = [] }

-- a function of the object: its name, and where it stands in the text
pub record Function : Type 0 where
  pub name : List ℕ
  pub start : ℕ
  pub size : ℕ

-- the number of the text among the sections
abbrev pub text_number : ℕ
text_number = 3

-- a global function (`STB_GLOBAL`, `STT_FUNC`)
abbrev pub function_symbol : Function → Symbol
function_symbol f = record { name = f.name; binding = 1; kind = 2; st_other = 0; st_shndx = text_number; st_value = f.start; st_size = f.size }

-- a global name that the object doesn't define
abbrev pub undefined_symbol : List ℕ → Symbol
undefined_symbol name = record { name = name; binding = 1; kind = 0; st_other = 0; st_shndx = 0; st_value = 0; st_size = 0 }

-- the first place, where it is the first, or a later one
abbrev pub first_or_later : Bool → Option ℕ → Option ℕ
first_or_later true later = Some 0
first_or_later false later = option_map suc later

-- where the first symbol with a name stands
abbrev pub place : List Symbol → List ℕ → Option ℕ
place [] name = None
place (s ∷ ss) name = first_or_later (bytes_eq name s.name) (place ss name)

-- symbols with one more for a name that none of them has
abbrev pub with_name : List Symbol → List ℕ → List Symbol
with_name ss name = cond (is_some (place ss name)) ss (ss ++ undefined_symbol name ∷ [])

-- symbols with those for the names that relocations use besides, in the order of their first uses
abbrev pub with_used_names : Naming → List Symbol → List RelocEntry → List Symbol
with_used_names named ss [] = ss
with_used_names named ss (r ∷ rs) = with_used_names named (with_name ss (named r.name)) rs

-- the functions, then the further names that the relocations use
abbrev pub global_symbols : Naming → List Function → List RelocEntry → List Symbol
global_symbols named fs rs = with_used_names named (map function_symbol fs) rs

-- the names of symbols, each with a zero behind it
abbrev pub string_table : List Symbol → List ℕ
string_table ss = flat_map (λ (s : Symbol). s.name ++ 0 ∷ []) ss

-- the symbol with a name
abbrev pub named_symbol : List Symbol → List ℕ → Symbol
named_symbol [] name = null_symbol
named_symbol (s ∷ ss) name = cond (bytes_eq name s.name) s (named_symbol ss name)

-- `R_390_PC32DBL`, `R_390_PLT32DBL`, `R_390_64`
abbrev pub type_of : Reloc → ℕ
type_of S390xPCRel32Dbl = 19
type_of S390xPLTRel32Dbl = 20
type_of Abs8 = 22

-- the relocation of finished code, by the object's global symbols
abbrev pub relocation_of : Naming → List Symbol → RelocEntry → Relocation
relocation_of named globals r = record { r_offset = r.offset; r_type = type_of r.kind; r_sym = named_symbol globals (named r.name); r_addend = r.addend }

-- a file is the object of functions in a text with relocations, whose symbols are called so
pub record IsObjectOf (named : Naming) (fs : List Function) (alignment : ℕ) (bytes : List ℕ) (rs : List RelocEntry) (file : List ℕ) : Type 0 where
  pub header : IsRelocatable (file_header file)
  pub text : named_section (sections file) (codes ".text") ≡ text_section alignment bytes
  pub symbols : symbols_of (sections file) ≡ null_symbol ∷ global_symbols named fs rs
  pub locals : (symbol_table (sections file)).sh_info ≡ 1
  pub relocations : relocations_for (sections file) (codes ".text") ≡ map (relocation_of named (global_symbols named fs rs)) rs
  pub note : named_section (sections file) (codes ".note.GNU-stack") ≡ stack_note

-- the one function of an object of finished code
abbrev pub whole_function : (name : List ℕ) → MachBufferFinalized → List Function
whole_function name code = record { name = name; start = 0; size = length code.bytes.items } ∷ []

-- a file is the object of finished code, where some symbols are given names
abbrev pub IsNamedObject : List GivenName → (name : List ℕ) (code : MachBufferFinalized) (file : List ℕ) → Type 0
IsNamedObject names name code file = IsObjectOf (name_in names) (whole_function name code) code.alignment code.bytes.items code.relocs.items file

abbrev pub IsObject : (name : List ℕ) (code : MachBufferFinalized) (file : List ℕ) → Type 0
IsObject name code file = IsNamedObject [] name code file

-- the address of a name, where functions stand in a text at a base and others give the other names these addresses
abbrev pub name_address : (base : ℕ) (others : List ℕ → ℕ) → List Function → List ℕ → ℕ
name_address base others [] name = others name
name_address base others (f ∷ fs) name = cond (bytes_eq name f.name) (base + f.start) (name_address base others fs name)

-- a table has the address of each symbol's name that relocations use
abbrev pub Agrees : Naming → (address : List ℕ → ℕ) → Symbols → List RelocEntry → Type 0
Agrees named address table rs = All (λ (r : RelocEntry). address_of table r.name ≡ Some (address (named r.name))) rs

-- linked at any base where no relocation has a cause of linking, each value fits its field, and the text is what the relocations fill in
abbrev pub IsLinkedAsFilled : Naming → (fs : List Function) (bytes : List ℕ) (rs : List RelocEntry) (file : List ℕ) → Type 0
IsLinkedAsFilled named fs bytes rs file =
    (base : ℕ) (others : List ℕ → ℕ) (table : Symbols) → Agrees named (name_address base others fs) table rs → relocs_cause base table rs ≡ None →
    All (λ (r : Relocation). fits_at base others r ≡ true) (relocations_for (sections file) (codes ".text")) × (linked_text file base others ≡ with_fields_filled base table rs bytes)

-- linked at any base where `link` has no cause, each value fits its field, and the text is `link`'s image
abbrev pub IsLinkedAsNamed : List GivenName → (name : List ℕ) (code : MachBufferFinalized) (file : List ℕ) → Type 0
IsLinkedAsNamed names name code file =
    (base : ℕ) (others : List ℕ → ℕ) (table : Symbols) → Agrees (name_in names) (name_address base others (whole_function name code)) table code.relocs.items → link_cause code base table ≡ None →
    All (λ (r : Relocation). fits_at base others r ≡ true) (relocations_for (sections file) (codes ".text")) × (linked_text file base others ≡ with_fields_filled base table code.relocs.items code.bytes.items)

abbrev pub IsLinkedAsImage : (name : List ℕ) (code : MachBufferFinalized) (file : List ℕ) → Type 0
IsLinkedAsImage name code file = IsLinkedAsNamed [] name code file

-- a function as the program has it
abbrev pub function_of : TextFunction → Function
function_of f = record { name = string_bytes f.name; start = f.start; size = f.size }
