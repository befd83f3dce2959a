-- Tables of what a runtime looks up: traps, calls, handlers, patchable calls, stack maps. Each kind has a section, which a program finds by `__start_s390x_traps`
-- and so on, since its name is an identifier of C. A section has a part for each function of the object, all of it numbers of eight bytes.
use Rattle.std.specs.Prelude.{◌≡◌, ℕ, ◌+◌, ◌*◌, ◌/◌, pos, Bool, true, false, not, ◌||◌, nat_eq, List, [], ◌∷◌, length, map, codes, None}
use Rattle.std.specs.List.{flat_map, list_any}
use Rattle.s390x_buffer.specs.declared.entries.TrapEntry.{TrapEntry}
use Rattle.s390x_buffer.specs.declared.entries.TryEntry.{TryEntry}
use Rattle.s390x_buffer.specs.declared.entries.HandlerEntry.{HandlerEntry}
use Rattle.s390x_buffer.specs.declared.entries.PatchEntry.{PatchEntry}
use Rattle.s390x_buffer.specs.declared.entries.MapEntry.{MapEntry}
use Rattle.s390x_buffer.specs.declared.entries.MachBufferFinalized.{MachBufferFinalized}
use Rattle.s390x_tables.specs.Numbers.{number_of_trap, tag_count, tag_or_zero}
use Rattle.s390x_elf.specs.declared.metadata.TableKind.{TableKind}
use Rattle.s390x_elf.specs.declared.metadata.TableKind.TheVariants.{Traps, Calls, Tries, Handlers, Patches, StackMaps}
use Rattle.s390x_elf.specs.declared.members.ObjectMember.{ObjectMember}
use Rattle.s390x_elf.specs.Reading.{doubleword_at, pieces}
use Rattle.s390x_elf.specs.File.{Section, sections, null_section}
use Rattle.s390x_elf.specs.Symbols.{Relocation, named_section, relocations_for}
use Rattle.s390x_elf.specs.Object.{Function, function_symbol, whole_function}
use Rattle.s390x_elf.specs.Members.{functions_behind}

-- ---- the entries of finished code, each a row of numbers; all offsets are in the function

-- a trap: its offset and its code
abbrev pub trap_row : TrapEntry → List ℕ
trap_row t = t.offset ∷ number_of_trap t.code ∷ []

-- a call without a try: its return place
abbrev pub call_row : ℕ → List ℕ
call_row offset = offset ∷ []

-- a call with a try: its return place, what is said of its frame, and how many handlers it has
abbrev pub try_row : TryEntry → List ℕ
try_row t = t.offset ∷ t.frame ∷ length t.handlers.items ∷ []

-- a handler: the return place of its call, whether it has a tag, its tag, and its offset
abbrev pub handler_row : (call : ℕ) → HandlerEntry → List ℕ
handler_row call h = call ∷ tag_count h.tag ∷ tag_or_zero h.tag ∷ h.offset ∷ []

-- the handlers of a call
abbrev pub handlers_of : TryEntry → List ℕ
handlers_of t = flat_map (handler_row t.offset) t.handlers.items

-- a patchable call: its return place and its length in bytes
abbrev pub patch_row : PatchEntry → List ℕ
patch_row p = p.offset ∷ p.len ∷ []

-- a stack map: its offset and its number
abbrev pub map_row : MapEntry → List ℕ
map_row m = m.offset ∷ m.map ∷ []

-- the rows of a kind, one behind the other, in the order of the code's tables; handlers stand in the order of their calls
abbrev pub rows : TableKind → MachBufferFinalized → List ℕ
rows Traps code = flat_map trap_row code.traps.items
rows Calls code = flat_map call_row code.call_sites.items
rows Tries code = flat_map try_row code.try_call_sites.items
rows Handlers code = flat_map handlers_of code.try_call_sites.items
rows Patches code = flat_map patch_row code.patchable_sites.items
rows StackMaps code = flat_map map_row code.stack_maps.items

-- how many numbers a row has
abbrev pub row_width : TableKind → ℕ
row_width Traps = 2
row_width Calls = 1
row_width Tries = 3
row_width Handlers = 4
row_width Patches = 2
row_width StackMaps = 2

-- a function's part of a table: the distance to the function, which a linker fills in, how many rows there are, and the rows
abbrev pub part : TableKind → MachBufferFinalized → List ℕ
part kind code = let all = rows kind code in 0 ∷ length all / row_width kind ∷ all

-- the functions' parts
abbrev pub parts : TableKind → List MachBufferFinalized → List ℕ
parts kind all = flat_map (part kind) all

-- finished code has an entry of any kind
abbrev pub has_entries : MachBufferFinalized → Bool
has_entries code =
    not (nat_eq (length code.traps.items) 0) || (not (nat_eq (length code.call_sites.items) 0) || (not (nat_eq (length code.try_call_sites.items) 0) || (not (nat_eq (length code.patchable_sites.items) 0) || not (nat_eq (length code.stack_maps.items) 0))))

-- ---- what is read of them

-- the section of a kind
abbrev pub table_name : TableKind → List ℕ
table_name Traps = codes "s390x_traps"
table_name Calls = codes "s390x_calls"
table_name Tries = codes "s390x_tries"
table_name Handlers = codes "s390x_handlers"
table_name Patches = codes "s390x_patches"
table_name StackMaps = codes "s390x_stack_maps"

-- the numbers of eight bytes in bytes
abbrev pub doublewords : List ℕ → List ℕ
doublewords bytes = map (λ (piece : List ℕ). doubleword_at piece 0) (pieces 8 (length bytes / 8) bytes)

-- the relocations of functions' parts, the first of which starts there: each one's first number is the distance from there to its function (`R_390_PC64`)
abbrev pub part_relocations : TableKind → (at : ℕ) → List Function → List MachBufferFinalized → List Relocation
part_relocations kind at [] all = []
part_relocations kind at (f ∷ fs) [] = []
part_relocations kind at (f ∷ fs) (code ∷ all) =
    record { r_offset = at; r_type = 23; r_sym = function_symbol f; r_addend = pos 0 } ∷ part_relocations kind (at + 8 * length (part kind code)) fs all

-- sections have the table of a kind of these functions with this code: `SHT_PROGBITS`, `SHF_ALLOC`, at a multiple of 8
pub record HasTable (kind : TableKind) (fs : List Function) (all : List MachBufferFinalized) (ss : List Section) : Type 0 where
  pub type : (named_section ss (table_name kind)).sh_type ≡ 1
  pub flags : (named_section ss (table_name kind)).sh_flags ≡ 2
  pub alignment : (named_section ss (table_name kind)).sh_addralign ≡ 8
  pub size : length (named_section ss (table_name kind)).content ≡ 8 * length (parts kind all)
  pub numbers : doublewords (named_section ss (table_name kind)).content ≡ parts kind all
  pub relocations : relocations_for ss (table_name kind) ≡ part_relocations kind 0 fs all

-- a file has the tables of these functions with this code: of all kinds where some code has an entry of any kind, and else of none
pub record HasTables (fs : List Function) (all : List MachBufferFinalized) (file : List ℕ) : Type 0 where
  pub present : list_any has_entries all ≡ true → (kind : TableKind) → HasTable kind fs all (sections file)
  pub absent : list_any has_entries all ≡ false → (kind : TableKind) → named_section (sections file) (table_name kind) ≡ null_section

-- a file has the tables of finished code with its function by this name
abbrev pub HasTablesOfCode : (name : List ℕ) → MachBufferFinalized → (file : List ℕ) → Type 0
HasTablesOfCode name code file = HasTables (whole_function name code) (code ∷ []) file

-- the code of members
abbrev pub member_codes : List ObjectMember → List MachBufferFinalized
member_codes ms = map (λ (m : ObjectMember). m.code) ms

-- a file has the tables of members
abbrev pub HasTablesOfMembers : List ObjectMember → (file : List ℕ) → Type 0
HasTablesOfMembers ms file = HasTables (functions_behind None ms) (member_codes ms) file
