-- A file that was written as an object is read as that object.
use Rattle.std.proofs.Common.{◌≡◌, ℕ, zero, suc, ◌+◌, ◌*◌, ◌/◌, ◌%◌, ◌^◌, ◌<◌, ◌≤◌, Bool, true, false, cond, nat_eq, is_some, List, [], ◌∷◌, ◌++◌, length, map, codes, refl, sym, ap, ◌∙◌, arith, length-append, append-nil, All}
use Rattle.std.specs.List.{list_any}
use Rattle.std.specs.Fmt.{decimal}
use Rattle.std.proofs.lemmas.Fmt.{decimal_by_steps}
use Rattle.std.proofs.lemmas.List.Elements.{All-nil, All-cons, All-head, All-tail, All-append}
use Rattle.std.proofs.lemmas.Bool.{or_parts}
use Rattle.s390x_base.specs.declared.ir.ExternalName.{ExternalName}
use Rattle.s390x_buffer.specs.declared.entries.RelocEntry.{RelocEntry}
use Rattle.s390x_elf.specs.Reading.{IsText, text, pieces}
use Rattle.s390x_elf.specs.File.{FileHeader, file_header, Section, sections, null_section}
use Rattle.s390x_elf.specs.Symbols.{Symbol, symbol, null_symbol, relocation, named_section, symbol_table, symbols_of, relocations_for}
use Rattle.s390x_elf.specs.Names.{Naming, symbol_name}
use Rattle.s390x_elf.specs.Object.{text_section, stack_note, Function, function_symbol, undefined_symbol, place, with_name, with_used_names, global_symbols, string_table, relocation_of, IsObjectOf}
use Rattle.s390x_elf.specs.Tables.{symbol_entry, symbol_entries, SymbolFits, relocation_entries, RelocFits, sections_with, object_sections}
use Rattle.s390x_elf.specs.Writing.{file_bytes, names_name, names_of, names_section, FieldsFit, string_section}
use Rattle.s390x_elf.proofs.Files.{file_header_read, file_read}
use Rattle.s390x_elf.proofs.Tables.{symbols_read, symbol_entries_length, relocations_read, relocation_entries_length}

-- names have no zero
text_cons : (b : ℕ) (bytes : List ℕ) → 0 < b → IsText bytes → IsText (b ∷ bytes)
text_cons zero bytes h k = absurd (omega arith)
text_cons (suc b) bytes h k = k

text_push : (bytes : List ℕ) (b : ℕ) → 0 < b → IsText bytes → IsText (bytes ++ b ∷ [])
text_push [] b h k = text_cons b [] h tt
text_push (zero ∷ bytes) b h k = k
text_push (suc a ∷ bytes) b h k = text_push bytes b h k

decimal_text : (n : ℕ) → n < 2 ^ 64 → IsText (decimal n)
decimal_text n h =
    decimal_by_steps (λ (m : ℕ) (ds : List ℕ). IsText ds)
    (λ m small. let p : 0 < 48 + m = omega arith in text_cons (48 + m) [] p tt)
    (λ m ds large k. let p : 0 < 48 + m % 10 = omega arith in text_push ds (48 + m % 10) p k)
    n h

pub name_text : (name : ExternalName) → name.0 < 2 ^ 32 → IsText (symbol_name name)
name_text name h = let small : name.0 < 2 ^ 64 = omega arith in decimal_text name.0 small

pub text_from_test : (bytes : List ℕ) → list_any (λ (b : ℕ). nat_eq b 0) bytes ≡ false → IsText bytes
text_from_test [] h = tt
text_from_test (zero ∷ bytes) h = let no : true ≡ false = (or_parts true (list_any (λ (b : ℕ). nat_eq b 0) bytes) h).0 in cc
text_from_test (suc b ∷ bytes) h = text_from_test bytes (or_parts (nat_eq (suc b) 0) (list_any (λ (x : ℕ). nat_eq x 0) bytes) h).1

-- symbols fit their entries
undefined_fits : (name : List ℕ) → IsText name → SymbolFits (undefined_symbol name)
undefined_fits name h = record { name = h; binding = omega arith; kind = omega arith; st_other = omega arith; st_shndx = omega arith; st_value = omega arith; st_size = omega arith }

pub function_fits : (f : Function) → IsText f.name → f.start < 2 ^ 64 → f.size < 2 ^ 64 → SymbolFits (function_symbol f)
function_fits f h start size = record { name = h; binding = omega arith; kind = omega arith; st_other = omega arith; st_shndx = omega arith; st_value = start; st_size = size }

fits_with : (b : Bool) (ss : List Symbol) (s : Symbol) → All SymbolFits ss → SymbolFits s → All SymbolFits (cond b ss (ss ++ s ∷ []))
fits_with true ss s h k = h
fits_with false ss s h k = All-append SymbolFits ss (s ∷ []) h (All-cons SymbolFits s [] k (All-nil SymbolFits))

-- all names are texts
abbrev pub NamesTexts : Naming → Type 0
NamesTexts named = (name : ExternalName) → name.0 < 2 ^ 32 → IsText (named name)

pub used_fit : (named : Naming) → NamesTexts named → (ss : List Symbol) (rs : List RelocEntry) → All SymbolFits ss → All RelocFits rs → All SymbolFits (with_used_names named ss rs)
used_fit named texts ss [] h k = h
used_fit named texts ss (r ∷ rs) h k =
    let n : List ℕ = named r.name in
    used_fit named texts (with_name ss n) rs
    (fits_with (is_some (place ss n)) ss (undefined_symbol n) h (undefined_fits n (texts r.name (All-head RelocFits r rs k).name)))
    (All-tail RelocFits r rs k)

-- an object's sections fit their headers
sections_fit : (alignment : ℕ) (entries relas text names : List ℕ) → alignment < 2 ^ 64 → All FieldsFit (sections_with alignment entries relas text names)
sections_fit alignment entries relas text names h =
    let symtab : FieldsFit (record { name = codes ".symtab"; sh_type = 2; sh_flags = 0; sh_addr = 0; sh_link = 4; sh_info = 1; sh_addralign = 8; sh_entsize = 24; content = entries }) =
    record { name = tt; sh_type = omega arith; sh_flags = omega arith; sh_addr = omega arith; sh_link = omega arith; sh_info = omega arith; sh_addralign = omega arith; sh_entsize = omega arith } in
    let rela : FieldsFit (record { name = codes ".rela.text"; sh_type = 4; sh_flags = 64; sh_addr = 0; sh_link = 1; sh_info = 3; sh_addralign = 8; sh_entsize = 24; content = relas }) =
    record { name = tt; sh_type = omega arith; sh_flags = omega arith; sh_addr = omega arith; sh_link = omega arith; sh_info = omega arith; sh_addralign = omega arith; sh_entsize = omega arith } in
    let code : FieldsFit (text_section alignment text) =
    record { name = tt; sh_type = omega arith; sh_flags = omega arith; sh_addr = omega arith; sh_link = omega arith; sh_info = omega arith; sh_addralign = h; sh_entsize = omega arith } in
    let strtab : FieldsFit (string_section (codes ".strtab") names) =
    record { name = tt; sh_type = omega arith; sh_flags = omega arith; sh_addr = omega arith; sh_link = omega arith; sh_info = omega arith; sh_addralign = omega arith; sh_entsize = omega arith } in
    let note : FieldsFit stack_note =
    record { name = tt; sh_type = omega arith; sh_flags = omega arith; sh_addr = omega arith; sh_link = omega arith; sh_info = omega arith; sh_addralign = omega arith; sh_entsize = omega arith } in
    let behind_text : List Section = string_section (codes ".strtab") names ∷ stack_note ∷ [] in
    let behind_relas : List Section = text_section alignment text ∷ behind_text in
    let behind_symbols : List Section = record { name = codes ".rela.text"; sh_type = 4; sh_flags = 64; sh_addr = 0; sh_link = 1; sh_info = 3; sh_addralign = 8; sh_entsize = 24; content = relas } ∷ behind_relas in
    All-cons FieldsFit _ behind_symbols symtab (All-cons FieldsFit _ behind_relas rela (All-cons FieldsFit _ behind_text code (All-cons FieldsFit _ (stack_note ∷ []) strtab (All-cons FieldsFit _ [] note (All-nil FieldsFit)))))

-- the sections of an object, the first and the last with them
abbrev pub all_sections : (alignment : ℕ) (entries relas text names : List ℕ) (extra : List Section) → List Section
all_sections alignment entries relas text names extra =
    null_section ∷ ((sections_with alignment entries relas text names ++ extra) ++ names_section (sections_with alignment entries relas text names ++ extra) ∷ [])

pub count_of : (bytes n : ℕ) → bytes ≡ 24 * n → bytes / 24 ≡ n
count_of bytes n h = omega arith

pub table_read : (ss : List Symbol) → length (0 ∷ string_table ss) < 2 ^ 32 → All SymbolFits ss → (entries : List ℕ) → entries ≡ symbol_entry 0 null_symbol ++ symbol_entries 1 ss →
    map (symbol (0 ∷ string_table ss)) (pieces 24 (length entries / 24) entries) ≡ null_symbol ∷ ss
table_read ss small fit entries e =
    let front : length (symbol_entry 0 null_symbol) ≡ 24 = refl in
    let rest = symbol_entries_length 1 ss in
    let size : length entries ≡ 24 * suc (length ss) = ap length e ∙ omega (arith, length-append (symbol_entry 0 null_symbol) (symbol_entries 1 ss)) in
    ap (λ (n : ℕ). map (symbol (0 ∷ string_table ss)) (pieces 24 n entries)) (count_of (length entries) (suc (length ss)) size)
    ∙ ap (λ (bytes : List ℕ). map (symbol (0 ∷ string_table ss)) (pieces 24 (suc (length ss)) bytes)) e
    ∙ ap (λ (rest : List Symbol). null_symbol ∷ rest)
    (symbols_read (0 ∷ string_table ss) small ss 1 (0 ∷ []) [] fit (sym (ap (λ (bytes : List ℕ). 0 ∷ bytes) (append-nil (string_table ss)))) refl)

entries_read : (named : Naming) (ss : List Symbol) → length ss < 2 ^ 32 → (rs : List RelocEntry) → All RelocFits rs →
    map (relocation (null_symbol ∷ ss)) (pieces 24 (length (relocation_entries named ss rs) / 24) (relocation_entries named ss rs)) ≡ map (relocation_of named ss) rs
entries_read named ss few rs fit =
    ap (λ (n : ℕ). map (relocation (null_symbol ∷ ss)) (pieces 24 n (relocation_entries named ss rs))) (count_of (length (relocation_entries named ss rs)) (length rs) (relocation_entries_length named ss rs))
    ∙ relocations_read named ss few rs fit

symbols_of_sections : (alignment : ℕ) (entries relas text names : List ℕ) (extra : List Section) → symbols_of (all_sections alignment entries relas text names extra) ≡ map (symbol names) (pieces 24 (length entries / 24) entries)
unfolding symbols_of
symbols_of_sections alignment entries relas text names extra = refl

relocations_of_sections : (alignment : ℕ) (entries relas text names : List ℕ) (extra : List Section) →
    relocations_for (all_sections alignment entries relas text names extra) (codes ".text") ≡ map (relocation (map (symbol names) (pieces 24 (length entries / 24) entries))) (pieces 24 (length relas / 24) relas)
unfolding relocations_for
relocations_of_sections alignment entries relas text names extra = refl

text_of_sections : (alignment : ℕ) (entries relas text names : List ℕ) (extra : List Section) → named_section (all_sections alignment entries relas text names extra) (codes ".text") ≡ text_section alignment text
text_of_sections alignment entries relas text names extra = refl

note_of_sections : (alignment : ℕ) (entries relas text names : List ℕ) (extra : List Section) → named_section (all_sections alignment entries relas text names extra) (codes ".note.GNU-stack") ≡ stack_note
note_of_sections alignment entries relas text names extra = refl

locals_of_sections : (alignment : ℕ) (entries relas text names : List ℕ) (extra : List Section) → (symbol_table (all_sections alignment entries relas text names extra)).sh_info ≡ 1
locals_of_sections alignment entries relas text names extra = refl

few_sections : (alignment : ℕ) (entries relas text names : List ℕ) (extra : List Section) → length extra < 1000 → length (sections_with alignment entries relas text names ++ extra) + 2 < 2 ^ 16
few_sections alignment entries relas text names extra few = omega arith

short_names : (alignment : ℕ) (entries relas text names : List ℕ) (extra : List Section) → length (names_of extra) < 100000 → length (names_section (sections_with alignment entries relas text names ++ extra)).content < 2 ^ 32
short_names alignment entries relas text names extra short = omega (arith, short, length-append (names_of extra) (names_name ++ 0 ∷ []))

pub few_symbols : (ss : List Symbol) → length ss ≤ length (string_table ss)
few_symbols [] = omega arith
few_symbols (s ∷ ss) =
    let next = few_symbols ss in
    omega (arith, length-append (s.name ++ 0 ∷ []) (string_table ss), length-append s.name (0 ∷ []))

-- sections behind those of an object
pub record MayFollow (extra : List Section) : Type 0 where
  pub few : length extra < 1000
  pub short : length (names_of extra) < 100000
  pub fit : All FieldsFit extra

-- the sections of a file of an object's sections and such others
pub sections_read : (alignment : ℕ) (entries relas text names : List ℕ) (extra : List Section) → MayFollow extra → alignment < 2 ^ 64 → length (file_bytes (sections_with alignment entries relas text names ++ extra)) < 2 ^ 64 →
    sections (file_bytes (sections_with alignment entries relas text names ++ extra)) ≡ all_sections alignment entries relas text names extra
sections_read alignment entries relas text names extra follow aligned file_small =
    file_read (sections_with alignment entries relas text names ++ extra) (few_sections alignment entries relas text names extra follow.few) file_small (short_names alignment entries relas text names extra follow.short)
    (All-append FieldsFit (sections_with alignment entries relas text names) extra (sections_fit alignment entries relas text names aligned) follow.fit)

pub object_read : (named : Naming) (fs : List Function) (alignment : ℕ) (bytes : List ℕ) (rs : List RelocEntry) (extra : List Section) → MayFollow extra → alignment < 2 ^ 64 →
    All SymbolFits (global_symbols named fs rs) → All RelocFits rs → length (0 ∷ string_table (global_symbols named fs rs)) < 2 ^ 32 →
    length (file_bytes (object_sections named (global_symbols named fs rs) alignment bytes rs ++ extra)) < 2 ^ 64 →
    IsObjectOf named fs alignment bytes rs (file_bytes (object_sections named (global_symbols named fs rs) alignment bytes rs ++ extra))
object_read named fs alignment bytes rs extra follow aligned fit rels small file_small =
    let ss : List Symbol = global_symbols named fs rs in
    let entries : List ℕ = symbol_entry 0 null_symbol ++ symbol_entries 1 ss in
    let relas : List ℕ = relocation_entries named ss rs in
    let names : List ℕ = 0 ∷ string_table ss in
    let parts : List Section = sections_with alignment entries relas bytes names ++ extra in
    let few = few_symbols ss in
    let few_enough : length ss < 2 ^ 32 = omega arith in
    let header : file_header (file_bytes parts) ≡ _ = file_header_read parts (few_sections alignment entries relas bytes names extra follow.few) in
    let read : sections (file_bytes parts) ≡ all_sections alignment entries relas bytes names extra = sections_read alignment entries relas bytes names extra follow aligned file_small in
    record {
      header = record {
        ident = ap (λ (h : FileHeader). h.e_ident) header;
        type = ap (λ (h : FileHeader). h.e_type) header;
        machine = ap (λ (h : FileHeader). h.e_machine) header;
        version = ap (λ (h : FileHeader). h.e_version) header;
        entry_point = ap (λ (h : FileHeader). h.e_entry) header;
        flags = ap (λ (h : FileHeader). h.e_flags) header;
        header_size = ap (λ (h : FileHeader). h.e_ehsize) header;
        segments = ap (λ (h : FileHeader). h.e_phnum) header;
        section_header_size = ap (λ (h : FileHeader). h.e_shentsize) header;
      };
      text = ap (λ (all : List Section). named_section all (codes ".text")) read ∙ text_of_sections alignment entries relas bytes names extra;
      symbols = ap symbols_of read ∙ symbols_of_sections alignment entries relas bytes names extra ∙ table_read ss small fit entries refl;
      locals = ap (λ (all : List Section). (symbol_table all).sh_info) read ∙ locals_of_sections alignment entries relas bytes names extra;
      relocations = ap (λ (all : List Section). relocations_for all (codes ".text")) read
          ∙ relocations_of_sections alignment entries relas bytes names extra
          ∙ ap (λ (all : List Symbol). map (relocation all) (pieces 24 (length relas / 24) relas)) (table_read ss small fit entries refl)
          ∙ entries_read named ss few_enough rs rels;
      note = ap (λ (all : List Section). named_section all (codes ".note.GNU-stack")) read ∙ note_of_sections alignment entries relas bytes names extra;
    }
