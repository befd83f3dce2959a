-- The object of the example.
use Rattle.std.proofs.Common.{◌≡◌, ℕ, ◌^◌, ◌<◌, List, [], ◌∷◌, ◌++◌, length, Vec, Global, refl, arith, All}
use Rattle.std.proofs.lemmas.List.Elements.{All-nil, All-cons}
use Rattle.s390x_base.specs.declared.trap.TrapKind.TheVariants.{StackOverflow}
use Rattle.s390x_buffer.specs.declared.entries.MachBufferFinalized.{MachBufferFinalized}
use Rattle.s390x_elf.specs.declared.metadata.TableKind.TheVariants.{Traps, Calls, Tries, Handlers, Patches, StackMaps}
use Rattle.s390x_elf.specs.Answers.{IsFileWithTables}
use Rattle.s390x_elf.specs.Example.{TablesAreRead, name}
use Rattle.s390x_elf.specs.File.{Section}
use Rattle.s390x_elf.specs.Metadata.{parts}
use Rattle.s390x_elf.specs.Names.{Naming, name_in}
use Rattle.s390x_elf.specs.Object.{Function, IsObjectOf, global_symbols, string_table}
use Rattle.s390x_elf.specs.TableBytes.{IsWide, MetadataFits, TableFits, metadata_sections, wides}
use Rattle.s390x_elf.specs.Tables.{AreObjectSections, FunctionFits, RelocFits, object_sections}
use Rattle.s390x_elf.specs.Writing.{file_bytes}
use Rattle.s390x_elf.proofs.Finished.{filled_is_image, globals_fit, object_from_file, object_is_filled, tables_from_file}

-- a vector of these
vec : {X : Type 0} (items : List X) → length items < 2 ^ 63 → Vec X Global
vec items small = record { ptr = denote.RawPtr.null_ptr; len = length items; cap = length items; alloc = record { memory = record { seal = tt } }; items = items; ok = (refl, omega arith); small = small }

code : MachBufferFinalized
code = record {
  bytes = vec (7 ∷ 254 ∷ []) (omega arith);
  block_starts = vec [] (omega arith);
  constant_starts = vec [] (omega arith);
  starts = vec [] (omega arith);
  relocs = vec [] (omega arith);
  traps = vec (record { offset = 0; code = StackOverflow } ∷ []) (omega arith);
  call_sites = vec (2 ∷ []) (omega arith);
  try_call_sites = vec [] (omega arith);
  patchable_sites = vec (record { offset = 2; len = 6 } ∷ []) (omega arith);
  stack_maps = vec (record { offset = 2; map = 1 } ∷ []) (omega arith);
  alignment = 4;
}

named : Naming
named = name_in []

all : List MachBufferFinalized
all = code ∷ []

functions : List Function
functions = record { name = name; start = 0; size = 2 } ∷ []

base : List Section
base = object_sections named (global_symbols named functions []) 4 (7 ∷ 254 ∷ []) []

file : List ℕ
file = file_bytes (base ++ metadata_sections all)

are : AreObjectSections named functions 4 (7 ∷ 254 ∷ []) [] base
unfolding base functions named
are =
    let short : length (0 ∷ string_table (global_symbols named functions [])) ≡ 3 = refl in
    let fits : FunctionFits (record { name = name; start = 0; size = 2 }) = record { start = omega arith; size = omega arith } in
    record {
      sections = refl;
      symbols_fit = globals_fit [] functions [] refl refl (All-cons FunctionFits (record { name = name; start = 0; size = 2 }) [] fits (All-nil FunctionFits)) (All-nil RelocFits);
      relocations_fit = All-nil RelocFits;
      names_fit = omega (arith, short);
      alignment_fits = omega arith;
    }

traps_fit : TableFits all Traps
unfolding all code vec
traps_fit =
    let size : length (wides (parts Traps all)) ≡ 32 = refl in
    record { numbers = All-cons IsWide 0 (1 ∷ 0 ∷ 251 ∷ []) (omega arith) (All-cons IsWide 1 (0 ∷ 251 ∷ []) (omega arith) (All-cons IsWide 0 (251 ∷ []) (omega arith) (All-cons IsWide 251 ([]) (omega arith) (All-nil IsWide)))); size = omega (arith, size) }

calls_fit : TableFits all Calls
unfolding all code vec
calls_fit =
    let size : length (wides (parts Calls all)) ≡ 24 = refl in
    record { numbers = All-cons IsWide 0 (1 ∷ 2 ∷ []) (omega arith) (All-cons IsWide 1 (2 ∷ []) (omega arith) (All-cons IsWide 2 ([]) (omega arith) (All-nil IsWide))); size = omega (arith, size) }

tries_fit : TableFits all Tries
unfolding all code vec
tries_fit =
    let size : length (wides (parts Tries all)) ≡ 16 = refl in
    record { numbers = All-cons IsWide 0 (0 ∷ []) (omega arith) (All-cons IsWide 0 ([]) (omega arith) (All-nil IsWide)); size = omega (arith, size) }

handlers_fit : TableFits all Handlers
unfolding all code vec
handlers_fit =
    let size : length (wides (parts Handlers all)) ≡ 16 = refl in
    record { numbers = All-cons IsWide 0 (0 ∷ []) (omega arith) (All-cons IsWide 0 ([]) (omega arith) (All-nil IsWide)); size = omega (arith, size) }

patches_fit : TableFits all Patches
unfolding all code vec
patches_fit =
    let size : length (wides (parts Patches all)) ≡ 32 = refl in
    record { numbers = All-cons IsWide 0 (1 ∷ 2 ∷ 6 ∷ []) (omega arith) (All-cons IsWide 1 (2 ∷ 6 ∷ []) (omega arith) (All-cons IsWide 2 (6 ∷ []) (omega arith) (All-cons IsWide 6 ([]) (omega arith) (All-nil IsWide)))); size = omega (arith, size) }

stackmaps_fit : TableFits all StackMaps
unfolding all code vec
stackmaps_fit =
    let size : length (wides (parts StackMaps all)) ≡ 32 = refl in
    record { numbers = All-cons IsWide 0 (1 ∷ 2 ∷ 1 ∷ []) (omega arith) (All-cons IsWide 1 (2 ∷ 1 ∷ []) (omega arith) (All-cons IsWide 2 (1 ∷ []) (omega arith) (All-cons IsWide 1 ([]) (omega arith) (All-nil IsWide)))); size = omega (arith, size) }

fit : MetadataFits all
fit = λ h. All-cons (TableFits all) Traps (Calls ∷ Tries ∷ Handlers ∷ Patches ∷ StackMaps ∷ []) traps_fit (All-cons (TableFits all) Calls (Tries ∷ Handlers ∷ Patches ∷ StackMaps ∷ []) calls_fit (All-cons (TableFits all) Tries (Handlers ∷ Patches ∷ StackMaps ∷ []) tries_fit (All-cons (TableFits all) Handlers (Patches ∷ StackMaps ∷ []) handlers_fit (All-cons (TableFits all) Patches (StackMaps ∷ []) patches_fit (All-cons (TableFits all) StackMaps ([]) stackmaps_fit (All-nil (TableFits all)))))))

size : length file ≡ 1883
unfolding file base functions named all code vec
size = refl

written : IsFileWithTables base all file
unfolding file
written = record { bytes = refl; size = omega (arith, size); fits = fit }

is_object : IsObjectOf named functions 4 (7 ∷ 254 ∷ []) [] file
is_object = object_from_file named functions 4 (7 ∷ 254 ∷ []) [] base all file are written

pub tables_are_read : TablesAreRead
unfolding vec code named all functions
tables_are_read = record {
  code = code;
  file = file;
  bytes_are = refl;
  traps_are = refl;
  calls_are = refl;
  patches_are = refl;
  maps_are = refl;
  some = refl;
  no_cause = refl;
  object = is_object;
  linked = filled_is_image [] name code file (object_is_filled named functions 4 (7 ∷ 254 ∷ []) [] file is_object);
  tables = tables_from_file named functions 4 (7 ∷ 254 ∷ []) [] base all file are written refl;
}
