-- Symbols and relocations are read from their tables.
use Rattle.std.proofs.Common.{◌≡◌, ℕ, ◌+◌, ◌*◌, ◌/◌, ◌%◌, ◌^◌, ◌<◌, ◌≤◌, ℤ, List, [], ◌∷◌, ◌++◌, length, map, get_or, refl, sym, ap, ◌∙◌, arith, append_assoc, length-append, All, FitsSigned}
use Rattle.std.specs.Int.{w64, cast_signed, cast_unsigned}
use Rattle.std.proofs.lemmas.Int.{ints, to_z-of_z}
use Rattle.std.proofs.lemmas.List.Elements.{All-head, All-tail}
use Rattle.std.proofs.lemmas.Nat.{from_be_bytes-to_be_bytes_2, from_be_bytes-to_be_bytes_4, from_be_bytes-to_be_bytes_8}
use Rattle.s390x_base.specs.declared.ir.Reloc.{Reloc}
use Rattle.s390x_base.specs.declared.ir.Reloc.TheVariants.{S390xPCRel32Dbl, S390xPLTRel32Dbl, Abs8}
use Rattle.s390x_buffer.specs.declared.entries.RelocEntry.{RelocEntry}
use Rattle.s390x_elf.specs.Reading.{text_at, pieces}
use Rattle.s390x_elf.specs.Symbols.{Symbol, symbol, null_symbol, relocation}
use Rattle.s390x_elf.specs.Names.{Naming}
use Rattle.s390x_elf.specs.Object.{type_of, relocation_of, string_table}
use Rattle.s390x_elf.specs.Tables.{symbol_entry, symbol_entries, SymbolFits, symbol_number, relocation_entry, relocation_entries, RelocFits}
use Rattle.s390x_elf.proofs.Parts.{text_read}
use Rattle.s390x_elf.proofs.Places.{numbered_is_named, number_within}

binding_read : (b k o : ℕ) → b < 16 → k < 16 → o < 256 → ((256 * (16 * b + k) + o) / 256 % 256) / 16 ≡ b
binding_read b k o hb hk ho = omega arith

kind_read : (b k o : ℕ) → b < 16 → k < 16 → o < 256 → ((256 * (16 * b + k) + o) / 256 % 256) % 16 ≡ k
kind_read b k o hb hk ho = omega arith

other_read : (b k o : ℕ) → o < 256 → (256 * (16 * b + k) + o) % 256 ≡ o
other_read b k o ho = omega arith

symbol_read : (names : List ℕ) (name_at : ℕ) (s : Symbol) → SymbolFits s → name_at < 2 ^ 32 → text_at names name_at ≡ s.name → symbol names (symbol_entry name_at s) ≡ s
symbol_read names name_at s fit small name = λ i. record {
  name = (ap (text_at names) (from_be_bytes-to_be_bytes_4 name_at small) ∙ name) i;
  binding = binding_read s.binding s.kind s.st_other fit.binding fit.kind fit.st_other i;
  kind = kind_read s.binding s.kind s.st_other fit.binding fit.kind fit.st_other i;
  st_other = other_read s.binding s.kind s.st_other fit.st_other i;
  st_shndx = from_be_bytes-to_be_bytes_2 s.st_shndx fit.st_shndx i;
  st_value = from_be_bytes-to_be_bytes_8 s.st_value fit.st_value i;
  st_size = from_be_bytes-to_be_bytes_8 s.st_size fit.st_size i;
}

-- symbols are read from their entries, where their names stand one behind the other
pub symbols_read : (names : List ℕ) → length names < 2 ^ 32 → (ss : List Symbol) (name_at : ℕ) (first last : List ℕ) → All SymbolFits ss → names ≡ first ++ (string_table ss ++ last) → name_at ≡ length first →
    map (symbol names) (pieces 24 (length ss) (symbol_entries name_at ss)) ≡ ss
symbols_read names names_small [] name_at first last fit f k = refl
symbols_read names names_small (s ∷ ss) name_at first last fit f k =
    let regroup : (string_table (s ∷ ss) ++ last) ≡ (s.name ++ 0 ∷ []) ++ (string_table ss ++ last) = append_assoc (s.name ++ 0 ∷ []) (string_table ss) last in
    let split : names ≡ first ++ (s.name ++ 0 ∷ (string_table ss ++ last)) = f ∙ ap (λ (bytes : List ℕ). first ++ bytes) (regroup ∙ append_assoc s.name (0 ∷ []) (string_table ss ++ last)) in
    let whole : length names ≡ length first + length (s.name ++ 0 ∷ (string_table ss ++ last)) = ap length split ∙ length-append first (s.name ++ 0 ∷ (string_table ss ++ last)) in
    let small : name_at < 2 ^ 32 = omega arith in
    let here : SymbolFits s = All-head SymbolFits s ss fit in
    let head : symbol names (symbol_entry name_at s) ≡ s = symbol_read names name_at s here small (text_read names first s.name (string_table ss ++ last) name_at split k here.name) in
    let next : name_at + (length s.name + 1) ≡ length (first ++ (s.name ++ 0 ∷ [])) = omega (arith, length-append first (s.name ++ 0 ∷ []), length-append s.name (0 ∷ [])) in
    let tail : map (symbol names) (pieces 24 (length ss) (symbol_entries (name_at + (length s.name + 1)) ss)) ≡ ss =
    symbols_read names names_small ss (name_at + (length s.name + 1)) (first ++ (s.name ++ 0 ∷ [])) last (All-tail SymbolFits s ss fit)
    (f ∙ ap (λ (bytes : List ℕ). first ++ bytes) regroup ∙ sym (append_assoc first (s.name ++ 0 ∷ []) (string_table ss ++ last))) next in
    λ i. head i ∷ tail i

pub symbol_entries_length : (name_at : ℕ) (ss : List Symbol) → length (symbol_entries name_at ss) ≡ 24 * length ss
symbol_entries_length name_at [] = refl
symbol_entries_length name_at (s ∷ ss) =
    let next = symbol_entries_length (name_at + (length s.name + 1)) ss in
    let front : length (symbol_entry name_at s) ≡ 24 = refl in
    omega (arith, length-append (symbol_entry name_at s) (symbol_entries (name_at + (length s.name + 1)) ss))

type_small : (k : Reloc) → type_of k < 256
type_small S390xPCRel32Dbl = omega arith
type_small k = omega arith

pub info_small : (n t : ℕ) → n < 2 ^ 32 → t < 256 → n * 4294967296 + t < 2 ^ 64
info_small n t h k = omega arith

pub type_read : (n t : ℕ) → t < 256 → (n * 4294967296 + t) % 2 ^ 32 ≡ t
type_read n t h = omega arith

pub number_read : (n t : ℕ) → t < 256 → (n * 4294967296 + t) / 2 ^ 32 ≡ n
number_read n t h = omega arith

unsigned_small : (z : ℤ) → FitsSigned w64 z → cast_unsigned w64 z < 2 ^ 64
unsigned_small z h = omega (arith, ints)

offset_small : (n : ℕ) → n < 2 ^ 32 → n < 2 ^ 64
offset_small n h = omega arith

relocation_read : (named : Naming) (ss : List Symbol) → length ss < 2 ^ 32 → (r : RelocEntry) → RelocFits r → relocation (null_symbol ∷ ss) (relocation_entry named ss r) ≡ relocation_of named ss r
relocation_read named ss few r fit =
    let number : ℕ = symbol_number ss (named r.name) in
    let within : number ≤ length ss = number_within ss (named r.name) in
    let few_numbers : number < 2 ^ 32 = omega arith in
    let small = type_small r.kind in
    let info = from_be_bytes-to_be_bytes_8 (number * 4294967296 + type_of r.kind) (info_small number (type_of r.kind) few_numbers small) in
    λ i. record {
      r_offset = from_be_bytes-to_be_bytes_8 r.offset (offset_small r.offset fit.offset) i;
      r_type = (ap (λ (n : ℕ). n % 2 ^ 32) info ∙ type_read number (type_of r.kind) small) i;
      r_sym = (ap (λ (n : ℕ). get_or (null_symbol ∷ ss) (n / 2 ^ 32) null_symbol) info
          ∙ ap (λ (n : ℕ). get_or (null_symbol ∷ ss) n null_symbol) (number_read number (type_of r.kind) small)
          ∙ numbered_is_named ss (named r.name)) i;
      r_addend = (ap (cast_signed w64) (from_be_bytes-to_be_bytes_8 (cast_unsigned w64 r.addend) (unsigned_small r.addend fit.addend)) ∙ to_z-of_z w64 r.addend fit.addend) i;
    }

-- relocations are read from their entries
pub relocations_read : (named : Naming) (ss : List Symbol) → length ss < 2 ^ 32 → (rs : List RelocEntry) → All RelocFits rs →
    map (relocation (null_symbol ∷ ss)) (pieces 24 (length rs) (relocation_entries named ss rs)) ≡ map (relocation_of named ss) rs
relocations_read named ss few [] fit = refl
relocations_read named ss few (r ∷ rs) fit =
    let head : relocation (null_symbol ∷ ss) (relocation_entry named ss r) ≡ relocation_of named ss r = relocation_read named ss few r (All-head RelocFits r rs fit) in
    let tail : map (relocation (null_symbol ∷ ss)) (pieces 24 (length rs) (relocation_entries named ss rs)) ≡ map (relocation_of named ss) rs = relocations_read named ss few rs (All-tail RelocFits r rs fit) in
    λ i. head i ∷ tail i

pub relocation_entries_length : (named : Naming) (ss : List Symbol) (rs : List RelocEntry) → length (relocation_entries named ss rs) ≡ 24 * length rs
relocation_entries_length named ss [] = refl
relocation_entries_length named ss (r ∷ rs) =
    let next = relocation_entries_length named ss rs in
    let front : length (relocation_entry named ss r) ≡ 24 = refl in
    omega (arith, length-append (relocation_entry named ss r) (relocation_entries named ss rs))
