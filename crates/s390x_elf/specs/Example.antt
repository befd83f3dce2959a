-- An object with tables, so that what is said of an object and of its tables isn't empty.
use Rattle.std.specs.Prelude.{◌≡◌, ℕ, List, [], ◌∷◌, codes, true, None}
use Rattle.s390x_base.specs.declared.trap.TrapKind.TheVariants.{StackOverflow}
use Rattle.s390x_buffer.specs.declared.entries.MachBufferFinalized.{MachBufferFinalized}
use Rattle.s390x_elf.specs.Causes.{object_cause}
use Rattle.s390x_elf.specs.Metadata.{HasTablesOfCode, has_entries}
use Rattle.s390x_elf.specs.Object.{IsObject, IsLinkedAsImage}

-- the name of the function
abbrev pub name : List ℕ
name = codes "f"

-- a function of two bytes, with a trap at the first one, and behind it a call, a patchable one and a stack map: it has no cause, and a file is its object,
-- is linked as its image, and has its tables
pub record TablesAreRead : Type 0 where
  pub code : MachBufferFinalized
  pub file : List ℕ
  pub bytes_are : code.bytes.items ≡ 7 ∷ 254 ∷ []
  pub traps_are : code.traps.items ≡ record { offset = 0; code = StackOverflow } ∷ []
  pub calls_are : code.call_sites.items ≡ 2 ∷ []
  pub patches_are : code.patchable_sites.items ≡ record { offset = 2; len = 6 } ∷ []
  pub maps_are : code.stack_maps.items ≡ record { offset = 2; map = 1 } ∷ []
  pub some : has_entries code ≡ true
  pub no_cause : object_cause name code ≡ None
  pub object : IsObject name code file
  pub linked : IsLinkedAsImage name code file
  pub tables : HasTablesOfCode name code file
