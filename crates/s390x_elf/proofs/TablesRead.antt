-- Tables of metadata are read from their bytes.
use Rattle.std.proofs.Common.{◌≡◌, ℕ, ◌+◌, ◌*◌, ◌/◌, ◌%◌, ◌^◌, ◌<◌, ◌≤◌, pos, Bool, true, false, cond, is_some, List, [], ◌∷◌, ◌++◌, length, drop, map, codes, get_or, refl, sym, ap, subst, ◌∙◌, arith, append_assoc, append-nil, length-append, All}
use Rattle.std.specs.List.{flat_map, list_any}
use Rattle.std.specs.Int.{w64, to_be_bytes}
use Rattle.std.proofs.lemmas.List.{drop-drop, get_or-drop, length-map}
use Rattle.std.proofs.lemmas.List.Elements.{All-nil, All-cons, All-head, All-tail, All-append}
use Rattle.std.proofs.lemmas.Nat.{from_be_bytes-to_be_bytes_8}
use Rattle.s390x_buffer.specs.declared.entries.MachBufferFinalized.{MachBufferFinalized}
use Rattle.s390x_elf.specs.declared.metadata.TableKind.{TableKind}
use Rattle.s390x_elf.specs.declared.metadata.TableKind.TheVariants.{Traps, Calls, Tries, Handlers, Patches, StackMaps}
use Rattle.s390x_buffer.specs.declared.entries.RelocEntry.{RelocEntry}
use Rattle.s390x_elf.specs.Reading.{IsText, doubleword_at, pieces}
use Rattle.s390x_elf.specs.File.{Section, sections, null_section}
use Rattle.s390x_elf.specs.Symbols.{Symbol, symbol, null_symbol, relocation, named_section, relocations_for}
use Rattle.s390x_elf.specs.Names.{Naming}
use Rattle.s390x_elf.specs.Object.{Function, function_symbol, undefined_symbol, global_symbols, place, stack_note, string_table, text_section, with_name, with_used_names}
use Rattle.s390x_elf.specs.Metadata.{HasTable, HasTables, has_entries, part, parts, doublewords, part_relocations, table_name}
use Rattle.s390x_elf.specs.TableBytes.{MetadataFits, TableFits, wides, part_entry, part_entries, IsWide, all_kinds, metadata_sections, table_number, table_relocation_section, table_relocations_name, table_section, table_sections}
use Rattle.s390x_elf.specs.Tables.{AreObjectSections, SymbolFits, object_sections, relocation_entries, relocation_section, sections_with, symbol_entries, symbol_entry, symbol_section}
use Rattle.s390x_elf.specs.Writing.{AreFew, FieldsFit, file_bytes, names_of, section_of, string_section}
use Rattle.s390x_elf.specs.declared.file.SectionParts.{SectionParts}
use Rattle.s390x_elf.proofs.ReadObject.{MayFollow, all_sections, count_of, few_symbols, sections_read, table_read}
use Rattle.s390x_elf.proofs.Tables.{info_small, type_read, number_read}

pub wides_long : (ns : List ℕ) → length (wides ns) ≡ 8 * length ns
wides_long [] = refl
wides_long (n ∷ ns) =
    let front : length (to_be_bytes w64 n) ≡ 8 = refl in
    let next = wides_long ns in
    omega (arith, next, length-append (to_be_bytes w64 n) (wides ns))

pieces_read : (ns : List ℕ) → All IsWide ns → map (λ (piece : List ℕ). doubleword_at piece 0) (pieces 8 (length ns) (wides ns)) ≡ ns
pieces_read [] fit = refl
pieces_read (n ∷ ns) fit =
    let head : doubleword_at (to_be_bytes w64 n) 0 ≡ n = from_be_bytes-to_be_bytes_8 n (All-head IsWide n ns fit) in
    let tail : map (λ (piece : List ℕ). doubleword_at piece 0) (pieces 8 (length ns) (wides ns)) ≡ ns = pieces_read ns (All-tail IsWide n ns fit) in
    λ i. head i ∷ tail i

eighth : (bytes n : ℕ) → bytes ≡ 8 * n → bytes / 8 ≡ n
eighth bytes n h = omega arith

pub doublewords_read : (ns : List ℕ) → All IsWide ns → doublewords (wides ns) ≡ ns
doublewords_read ns fit =
    ap (λ (n : ℕ). map (λ (piece : List ℕ). doubleword_at piece 0) (pieces 8 n (wides ns))) (eighth (length (wides ns)) (length ns) (wides_long ns)) ∙ pieces_read ns fit

-- the symbol with a number, where the symbols from there on are known
numbered_here : (ss more : List Symbol) (s : Symbol) (n : ℕ) → drop n ss ≡ s ∷ more → get_or ss n null_symbol ≡ s
numbered_here ss more s n e =
    let same : n + 0 ≡ n = omega arith in
    ap (λ (k : ℕ). get_or ss k null_symbol) (sym same) ∙ sym (get_or-drop n ss 0 null_symbol) ∙ ap (λ (l : List Symbol). get_or l 0 null_symbol) e

numbered_next : (ss more : List Symbol) (s : Symbol) (n : ℕ) → drop n ss ≡ s ∷ more → drop (n + 1) ss ≡ more
numbered_next ss more s n e = sym (drop-drop 1 n ss) ∙ ap (λ (l : List Symbol). drop 1 l) e

part_read : (ss more : List Symbol) (f : Function) (at n : ℕ) → at < 2 ^ 64 → n < 2 ^ 32 → drop n ss ≡ function_symbol f ∷ more →
    relocation ss (part_entry at n) ≡ record { r_offset = at; r_type = 23; r_sym = function_symbol f; r_addend = pos 0 }
part_read ss more f at n small few e =
    let type : 23 < 256 = omega arith in
    let info = from_be_bytes-to_be_bytes_8 (n * 4294967296 + 23) (info_small n 23 few type) in
    λ i. record {
      r_offset = from_be_bytes-to_be_bytes_8 at small i;
      r_type = (ap (λ (m : ℕ). m % 2 ^ 32) info ∙ type_read n 23 type) i;
      r_sym = (ap (λ (m : ℕ). get_or ss (m / 2 ^ 32) null_symbol) info ∙ ap (λ (m : ℕ). get_or ss m null_symbol) (number_read n 23 type) ∙ numbered_here ss more (function_symbol f) n e) i;
      r_addend = pos 0;
    }

pub parts_read : (kind : TableKind) (ss more : List Symbol) (fs : List Function) (all : List MachBufferFinalized) (at n : ℕ) → length fs ≡ length all → at + length (wides (parts kind all)) < 2 ^ 64 → n + length all ≤ 2 ^ 32 →
    drop n ss ≡ map function_symbol fs ++ more → map (relocation ss) (pieces 24 (length all) (part_entries kind at n all)) ≡ part_relocations kind at fs all
parts_read kind ss more [] [] at n same small few e = refl
parts_read kind ss more [] (code ∷ all) at n same small few e = absurd (omega arith)
parts_read kind ss more (f ∷ fs) [] at n same small few e = refl
parts_read kind ss more (f ∷ fs) (code ∷ all) at n same small few e =
    let long : length (wides (part kind code)) ≡ 8 * length (part kind code) = wides_long (part kind code) in
    let rest : List ℕ = parts kind all in
    let whole : length (wides (part kind code ++ rest)) ≡ 8 * length (part kind code ++ rest) = wides_long (part kind code ++ rest) in
    let right : length (wides rest) ≡ 8 * length rest = wides_long rest in
    let split : length (part kind code ++ rest) ≡ length (part kind code) + length rest = length-append (part kind code) rest in
    let here : at < 2 ^ 64 = omega arith in
    let number : n < 2 ^ 32 = omega arith in
    let behind : (at + length (wides (part kind code))) + length (wides rest) < 2 ^ 64 = omega (arith, small, long, whole, right, split) in
    let left : (n + 1) + length all ≤ 2 ^ 32 = omega arith in
    let counts : length fs ≡ length all = omega arith in
    let head : relocation ss (part_entry at n) ≡ record { r_offset = at; r_type = 23; r_sym = function_symbol f; r_addend = pos 0 } = part_read ss (map function_symbol fs ++ more) f at n here number e in
    let tail : map (relocation ss) (pieces 24 (length all) (part_entries kind (at + length (wides (part kind code))) (n + 1) all)) ≡ part_relocations kind (at + 8 * length (part kind code)) fs all =
    parts_read kind ss more fs all (at + length (wides (part kind code))) (n + 1) counts behind left (numbered_next ss (map function_symbol fs ++ more) (function_symbol f) n e)
    ∙ ap (λ (k : ℕ). part_relocations kind (at + k) fs all) long in
    λ i. head i ∷ tail i

pub part_entries_long : (kind : TableKind) (at n : ℕ) (all : List MachBufferFinalized) → length (part_entries kind at n all) ≡ 24 * length all
part_entries_long kind at n [] = refl
part_entries_long kind at n (code ∷ all) =
    let next = part_entries_long kind (at + length (wides (part kind code))) (n + 1) all in
    let front : length (part_entry at n) ≡ 24 = refl in
    omega (arith, next, length-append (part_entry at n) (part_entries kind (at + length (wides (part kind code))) (n + 1) all))

-- ---- the sections of metadata fit their headers

name_is_text : (kind : TableKind) → IsText (table_name kind)
name_is_text Traps = tt
name_is_text kind = tt

relocations_name_is_text : (kind : TableKind) → IsText (table_relocations_name kind)
relocations_name_is_text Traps = tt
relocations_name_is_text kind = tt

number_small : (kind : TableKind) → table_number kind < 2 ^ 32
number_small Traps = omega arith
number_small kind = omega arith

name_short : (kind : TableKind) → length (table_name kind) < 256
name_short Traps = omega arith
name_short kind = omega arith

relocations_name_short : (kind : TableKind) → length (table_relocations_name kind) < 256
relocations_name_short Traps = omega arith
relocations_name_short kind = omega arith

kind_fits : (all : List MachBufferFinalized) (kind : TableKind) → All FieldsFit (table_sections all kind)
kind_fits all kind =
    let table : FieldsFit (table_section kind (wides (parts kind all))) =
    record { name = name_is_text kind; sh_type = omega arith; sh_flags = omega arith; sh_addr = omega arith; sh_link = omega arith; sh_info = omega arith; sh_addralign = omega arith; sh_entsize = omega arith } in
    let relas : FieldsFit (table_relocation_section kind (part_entries kind 0 1 all)) =
    record { name = relocations_name_is_text kind; sh_type = omega arith; sh_flags = omega arith; sh_addr = omega arith; sh_link = omega arith; sh_info = number_small kind; sh_addralign = omega arith; sh_entsize = omega arith } in
    All-cons FieldsFit (table_section kind (wides (parts kind all))) (table_relocation_section kind (part_entries kind 0 1 all) ∷ []) table
    (All-cons FieldsFit (table_relocation_section kind (part_entries kind 0 1 all)) [] relas (All-nil FieldsFit))

kinds_fit : (all : List MachBufferFinalized) (kinds : List TableKind) → All FieldsFit (flat_map (table_sections all) kinds)
kinds_fit all [] = All-nil FieldsFit
kinds_fit all (k ∷ ks) = All-append FieldsFit (table_sections all k) (flat_map (table_sections all) ks) (kind_fits all k) (kinds_fit all ks)

-- a short name
abbrev IsShort : Section → Type 0
IsShort s = length s.name < 256

kinds_short : (all : List MachBufferFinalized) (kinds : List TableKind) → All IsShort (flat_map (table_sections all) kinds)
kinds_short all [] = All-nil IsShort
kinds_short all (k ∷ ks) =
    All-cons IsShort (table_section k (wides (parts k all))) (table_relocation_section k (part_entries k 0 1 all) ∷ flat_map (table_sections all) ks) (name_short k)
    (All-cons IsShort (table_relocation_section k (part_entries k 0 1 all)) (flat_map (table_sections all) ks) (relocations_name_short k) (kinds_short all ks))

count_of_sections : (all : List MachBufferFinalized) → length (flat_map (table_sections all) all_kinds) ≡ 12
count_of_sections all = refl

names_long : (all : List MachBufferFinalized) → length (names_of (flat_map (table_sections all) all_kinds)) ≡ 194
names_long all = refl

follow_if : (b : Bool) (all : List MachBufferFinalized) → MayFollow (cond b (flat_map (table_sections all) all_kinds) [])
follow_if true all = record { few = omega (arith, count_of_sections all); short = omega (arith, names_long all); fit = kinds_fit all all_kinds }
follow_if false all = record { few = omega arith; short = omega arith; fit = All-nil FieldsFit }

pub metadata_follows : (all : List MachBufferFinalized) → MayFollow (metadata_sections all)
metadata_follows all = follow_if (list_any has_entries all) all

few_if : (b : Bool) (all : List MachBufferFinalized) → AreFew (cond b (flat_map (table_sections all) all_kinds) [])
few_if true all = record { count = omega (arith, count_of_sections all); names = kinds_short all all_kinds }
few_if false all = record { count = omega arith; names = All-nil IsShort }

pub metadata_few : (all : List MachBufferFinalized) → AreFew (metadata_sections all)
metadata_few all = few_if (list_any has_entries all) all

base_few : (alignment : ℕ) (entries relas text names : List ℕ) → AreFew (sections_with alignment entries relas text names)
base_few alignment entries relas text names = record {
  count = omega arith;
  names =
      All-cons IsShort (symbol_section entries) (relocation_section relas ∷ text_section alignment text ∷ string_section (codes ".strtab") names ∷ stack_note ∷ []) (omega arith)
      (All-cons IsShort (relocation_section relas) (text_section alignment text ∷ string_section (codes ".strtab") names ∷ stack_note ∷ []) (omega arith)
      (All-cons IsShort (text_section alignment text) (string_section (codes ".strtab") names ∷ stack_note ∷ []) (omega arith)
      (All-cons IsShort (string_section (codes ".strtab") names) (stack_note ∷ []) (omega arith)
      (All-cons IsShort stack_note [] (omega arith) (All-nil IsShort)))));
}

-- ---- the functions stand first among the symbols

-- the symbol of a name that none has
one_more : (b : Bool) (s : Symbol) → List Symbol
one_more b s = cond b [] (s ∷ [])

added : (named : Naming) (ss : List Symbol) (rs : List RelocEntry) → List Symbol
added named ss [] = []
added named ss (r ∷ rs) = one_more (is_some (place ss (named r.name))) (undefined_symbol (named r.name)) ++ added named (with_name ss (named r.name)) rs

split_one : (b : Bool) (ss : List Symbol) (s : Symbol) → cond b ss (ss ++ s ∷ []) ≡ ss ++ one_more b s
unfolding one_more
split_one true ss s = sym (append-nil ss)
split_one false ss s = refl

used_behind : (named : Naming) (ss : List Symbol) (rs : List RelocEntry) → with_used_names named ss rs ≡ ss ++ added named ss rs
unfolding added
used_behind named ss [] = sym (append-nil ss)
used_behind named ss (r ∷ rs) =
    let n : List ℕ = named r.name in
    let one : List Symbol = one_more (is_some (place ss n)) (undefined_symbol n) in
    let rest : List Symbol = added named (with_name ss n) rs in
    used_behind named (with_name ss n) rs
    ∙ ap (λ (l : List Symbol). l ++ rest) (split_one (is_some (place ss n)) ss (undefined_symbol n))
    ∙ append_assoc ss one rest

-- ---- the sections of metadata are read

section_found : (kind : TableKind) (alignment : ℕ) (entries relas text names : List ℕ) (all : List MachBufferFinalized) → named_section (all_sections alignment entries relas text names (flat_map (table_sections all) all_kinds)) (table_name kind) ≡ table_section kind (wides (parts kind all))
section_found Traps alignment entries relas text names all = refl
section_found kind alignment entries relas text names all = refl

none_found : (kind : TableKind) (alignment : ℕ) (entries relas text names : List ℕ) (all : List MachBufferFinalized) → named_section (all_sections alignment entries relas text names []) (table_name kind) ≡ null_section
none_found Traps alignment entries relas text names all = refl
none_found kind alignment entries relas text names all = refl

relocations_found : (kind : TableKind) (alignment : ℕ) (entries relas text names : List ℕ) (all : List MachBufferFinalized) →
    relocations_for (all_sections alignment entries relas text names (flat_map (table_sections all) all_kinds)) (table_name kind) ≡
    map (relocation (map (symbol names) (pieces 24 (length entries / 24) entries))) (pieces 24 (length (part_entries kind 0 1 all) / 24) (part_entries kind 0 1 all))
unfolding relocations_for
relocations_found Traps alignment entries relas text names all = refl
relocations_found kind alignment entries relas text names all = refl

kind_of_all : (P : TableKind → Type 0) → All P all_kinds → (kind : TableKind) → P kind
kind_of_all P h Traps = h 0 Traps (omega arith)
kind_of_all P h Calls = h 1 Calls (omega arith)
kind_of_all P h Tries = h 2 Tries (omega arith)
kind_of_all P h Handlers = h 3 Handlers (omega arith)
kind_of_all P h Patches = h 4 Patches (omega arith)
kind_of_all P h StackMaps = h 5 StackMaps (omega arith)

has_table : (kind : TableKind) (named : Naming) (fs : List Function) (alignment : ℕ) (bytes : List ℕ) (rs : List RelocEntry) (all : List MachBufferFinalized) (ss : List Section) →
    All SymbolFits (global_symbols named fs rs) → length (0 ∷ string_table (global_symbols named fs rs)) < 2 ^ 32 → length fs ≡ length all → TableFits all kind →
    ss ≡ all_sections alignment (symbol_entry 0 null_symbol ++ symbol_entries 1 (global_symbols named fs rs)) (relocation_entries named (global_symbols named fs rs) rs) bytes (0 ∷ string_table (global_symbols named fs rs)) (flat_map (table_sections all) all_kinds) →
    HasTable kind fs all ss
has_table kind named fs alignment bytes rs all ss fit small same fits read =
    let gs : List Symbol = global_symbols named fs rs in
    let entries : List ℕ = symbol_entry 0 null_symbol ++ symbol_entries 1 gs in
    let relas : List ℕ = relocation_entries named gs rs in
    let names : List ℕ = 0 ∷ string_table gs in
    let mine : List ℕ = part_entries kind 0 1 all in
    let more : List Symbol = added named (map function_symbol fs) rs in
    let split : gs ≡ map function_symbol fs ++ more = used_behind named (map function_symbol fs) rs in
    let long : length gs ≡ length (map function_symbol fs) + length more = ap length split ∙ length-append (map function_symbol fs) more in
    let counts : length (map function_symbol fs) ≡ length fs = length-map fs function_symbol in
    let enough = few_symbols gs in
    let few : 1 + length all ≤ 2 ^ 32 = omega (arith, long, counts, enough, small, same) in
    let within : 0 + length (wides (parts kind all)) < 2 ^ 64 = omega (arith, fits.size) in
    let found : named_section ss (table_name kind) ≡ table_section kind (wides (parts kind all)) =
    ap (λ (l : List Section). named_section l (table_name kind)) read ∙ section_found kind alignment entries relas bytes names all in
    record {
      type = ap (λ (s : Section). s.sh_type) found;
      flags = ap (λ (s : Section). s.sh_flags) found;
      alignment = ap (λ (s : Section). s.sh_addralign) found;
      size = ap (λ (s : Section). length s.content) found ∙ wides_long (parts kind all);
      numbers = ap (λ (s : Section). doublewords s.content) found ∙ doublewords_read (parts kind all) fits.numbers;
      relocations = ap (λ (l : List Section). relocations_for l (table_name kind)) read
          ∙ relocations_found kind alignment entries relas bytes names all
          ∙ ap (λ (symbols : List Symbol). map (relocation symbols) (pieces 24 (length mine / 24) mine)) (table_read gs small fit entries refl)
          ∙ ap (λ (n : ℕ). map (relocation (null_symbol ∷ gs)) (pieces 24 n mine)) (count_of (length mine) (length all) (part_entries_long kind 0 1 all))
          ∙ parts_read kind (null_symbol ∷ gs) more fs all 0 1 same within few split;
    }

-- an object's functions are fewer than its names' bytes
pub functions_few : (named : Naming) (fs : List Function) (alignment : ℕ) (bytes : List ℕ) (rs : List RelocEntry) (ss : List Section) → AreObjectSections named fs alignment bytes rs ss → length fs < 4294967295
functions_few named fs alignment bytes rs ss are =
    let gs : List Symbol = global_symbols named fs rs in
    let more : List Symbol = added named (map function_symbol fs) rs in
    let split : gs ≡ map function_symbol fs ++ more = used_behind named (map function_symbol fs) rs in
    let long : length gs ≡ length (map function_symbol fs) + length more = ap length split ∙ length-append (map function_symbol fs) more in
    let counts : length (map function_symbol fs) ≡ length fs = length-map fs function_symbol in
    let enough = few_symbols gs in
    let small : length (0 ∷ string_table gs) < 2 ^ 32 = are.names_fit in
    omega (arith, long, counts, enough, small)

-- an object's sections are few, and have short names
pub object_few : (named : Naming) (fs : List Function) (alignment : ℕ) (bytes : List ℕ) (rs : List RelocEntry) (ss : List Section) → AreObjectSections named fs alignment bytes rs ss → AreFew ss
object_few named fs alignment bytes rs ss are =
    let gs : List Symbol = global_symbols named fs rs in
    subst (λ (l : List Section). AreFew l) (sym are.sections) (base_few alignment (symbol_entry 0 null_symbol ++ symbol_entries 1 gs) (relocation_entries named gs rs) bytes (0 ∷ string_table gs))

-- the sections of a program are as few as they are read
short_back : (ps : List SectionParts) → All IsShort (map section_of ps) → All (λ (p : SectionParts). length p.name.now < 256) ps
short_back [] h = All-nil (λ (p : SectionParts). length p.name.now < 256)
short_back (p ∷ ps) h =
    All-cons (λ (q : SectionParts). length q.name.now < 256) p ps (All-head IsShort (section_of p) (map section_of ps) h) (short_back ps (All-tail IsShort (section_of p) (map section_of ps) h))

pub parts_short : (ps : List SectionParts) (ss : List Section) (all : List MachBufferFinalized) → map section_of ps ≡ ss ++ metadata_sections all → AreFew ss → All (λ (p : SectionParts). length p.name.now < 256) ps
parts_short ps ss all e few =
    short_back ps (subst (λ (l : List Section). All IsShort l) (sym e) (All-append IsShort ss (metadata_sections all) few.names (metadata_few all).names))

pub parts_count : (ps : List SectionParts) (ss : List Section) (all : List MachBufferFinalized) → map section_of ps ≡ ss ++ metadata_sections all → AreFew ss → length ps < 1000
parts_count ps ss all e few =
    let mapped : length (map section_of ps) ≡ length ps = length-map ps section_of in
    let whole : length (map section_of ps) ≡ length (ss ++ metadata_sections all) = ap length e in
    let split : length (ss ++ metadata_sections all) ≡ length ss + length (metadata_sections all) = length-append ss (metadata_sections all) in
    let here : length ss < 100 = few.count in
    let there : length (metadata_sections all) < 100 = (metadata_few all).count in
    omega (arith, mapped, whole, split, here, there)

-- a file of an object's sections and those of metadata has the tables
pub tables_from_sections : (named : Naming) (fs : List Function) (alignment : ℕ) (bytes : List ℕ) (rs : List RelocEntry) (ss : List Section) (all : List MachBufferFinalized) (file : List ℕ) → AreObjectSections named fs alignment bytes rs ss →
    file ≡ file_bytes (ss ++ metadata_sections all) → length file < 2 ^ 64 → length fs ≡ length all → MetadataFits all → HasTables fs all file
tables_from_sections named fs alignment bytes rs ss all file are written small same fits =
    let gs : List Symbol = global_symbols named fs rs in
    let entries : List ℕ = symbol_entry 0 null_symbol ++ symbol_entries 1 gs in
    let relas : List ℕ = relocation_entries named gs rs in
    let names : List ℕ = 0 ∷ string_table gs in
    let whole : file ≡ file_bytes (object_sections named gs alignment bytes rs ++ metadata_sections all) = written ∙ ap (λ (parts : List Section). file_bytes (parts ++ metadata_sections all)) are.sections in
    let read : sections file ≡ all_sections alignment entries relas bytes names (metadata_sections all) =
    ap sections whole ∙ sections_read alignment entries relas bytes names (metadata_sections all) (metadata_follows all) are.alignment_fits (subst (λ (b : List ℕ). length b < 2 ^ 64) whole small) in
    let if_so : Bool → List Section = λ b. cond b (flat_map (table_sections all) all_kinds) [] in
    record {
      present = λ h kind.
          has_table kind named fs alignment bytes rs all (sections file) are.symbols_fit are.names_fit same (kind_of_all (TableFits all) (fits h) kind)
          (read ∙ ap (λ (b : Bool). all_sections alignment entries relas bytes names (if_so b)) h);
      absent = λ h kind.
          ap (λ (l : List Section). named_section l (table_name kind)) (read ∙ ap (λ (b : Bool). all_sections alignment entries relas bytes names (if_so b)) h)
          ∙ none_found kind alignment entries relas bytes names all;
    }
