-- The text of `emit`: the finished code and its tables, a line for each entry.
use Rattle.std.specs.Prelude.{ℕ, ◌+◌, List, [], ◌∷◌, ◌++◌, map, codes, Option, Some, None}
use Rattle.std.specs.Fmt.{decimal, signed_decimal}
use Rattle.s390x_base.specs.declared.ir.Reloc.{Reloc}
use Rattle.s390x_base.specs.declared.ir.Reloc.TheVariants.{S390xPCRel32Dbl, S390xPLTRel32Dbl, Abs8}
use Rattle.s390x_buffer.specs.declared.entries.RelocEntry.{RelocEntry}
use Rattle.s390x_buffer.specs.declared.entries.TrapEntry.{TrapEntry}
use Rattle.s390x_buffer.specs.declared.entries.TryEntry.{TryEntry}
use Rattle.s390x_buffer.specs.declared.entries.HandlerEntry.{HandlerEntry}
use Rattle.s390x_buffer.specs.declared.entries.PatchEntry.{PatchEntry}
use Rattle.s390x_buffer.specs.declared.entries.MapEntry.{MapEntry}
use Rattle.s390x_buffer.specs.declared.entries.MachBufferFinalized.{MachBufferFinalized}
use Rattle.s390x_job.specs.Completions.{text_of_lines}
use Rattle.s390x_job_fields.specs.Atoms.{trap_text}
use Rattle.s390x_job_fields.specs.Bytes.{bytes_text}
use Rattle.s390x_job_fields.specs.Lists.{list_text}

-- `code HEX`, with `-` for no bytes
abbrev pub code_line : List ℕ → List ℕ
code_line bytes = codes "code " ++ bytes_text bytes

-- `align N`
abbrev pub align_line : ℕ → List ℕ
align_line n = codes "align " ++ decimal n

-- a name, a number and an offset, as `block K OFFSET`
abbrev pub numbered_line : List ℕ → ℕ → ℕ → List ℕ
numbered_line name k offset = name ++ (32 ∷ (decimal k ++ (32 ∷ decimal offset)))

-- a line for each offset, numbered from k on
abbrev pub numbered_lines : List ℕ → ℕ → List ℕ → List (List ℕ)
numbered_lines name k [] = []
numbered_lines name k (offset ∷ offsets) = numbered_line name k offset ∷ numbered_lines name (k + 1) offsets

-- the name of a relocation's kind
abbrev pub reloc_kind_text : Reloc → List ℕ
reloc_kind_text S390xPCRel32Dbl = codes "PCRel32Dbl"
reloc_kind_text S390xPLTRel32Dbl = codes "PLTRel32Dbl"
reloc_kind_text Abs8 = codes "Abs8"

-- `reloc OFFSET KIND uN ADDEND`
abbrev pub reloc_line : RelocEntry → List ℕ
reloc_line e =
    codes "reloc " ++ (decimal e.offset ++ (32 ∷ (reloc_kind_text e.kind ++ (codes " u" ++ (decimal e.name.0 ++ (32 ∷ signed_decimal e.addend))))))

-- `trap OFFSET CODE`
abbrev pub trap_line : TrapEntry → List ℕ
trap_line e = codes "trap " ++ (decimal e.offset ++ (32 ∷ trap_text e.code))

-- `call OFFSET`
abbrev pub call_line : ℕ → List ℕ
call_line offset = codes "call " ++ decimal offset

-- a handler's tag, `*` for all tags
abbrev pub tag_text : Option ℕ → List ℕ
tag_text None = codes "*"
tag_text (Some tag) = decimal tag

-- `TAG:OFFSET`
abbrev pub handler_entry_text : HandlerEntry → List ℕ
handler_entry_text h = tag_text h.tag ++ (58 ∷ decimal h.offset)

-- `try OFFSET FRAME [TAG:OFFSET,*:OFFSET]`
abbrev pub try_line : TryEntry → List ℕ
try_line e =
    codes "try " ++ (decimal e.offset ++ (32 ∷ (decimal e.frame ++ (32 ∷ list_text handler_entry_text e.handlers.items))))

-- `patch OFFSET LEN`
abbrev pub patch_line : PatchEntry → List ℕ
patch_line e = codes "patch " ++ (decimal e.offset ++ (32 ∷ decimal e.len))

-- `map OFFSET NUMBER`
abbrev pub map_line : MapEntry → List ℕ
map_line e = codes "map " ++ (decimal e.offset ++ (32 ∷ decimal e.map))

-- the lines of the bytes and the alignment
abbrev pub code_head_lines : MachBufferFinalized → List (List ℕ)
code_head_lines f = code_line f.bytes.items ∷ align_line f.alignment ∷ []

-- the lines of blocks and constants
abbrev pub start_offset_lines : MachBufferFinalized → List (List ℕ)
start_offset_lines f = numbered_lines (codes "block") 0 f.block_starts.items ++ numbered_lines (codes "const") 0 f.constant_starts.items

-- the lines of relocations, traps and calls
abbrev pub code_lines : MachBufferFinalized → List (List ℕ)
code_lines f = map reloc_line f.relocs.items ++ (map trap_line f.traps.items ++ map call_line f.call_sites.items)

-- the lines of calls with a try, patchable calls and stack maps
abbrev pub site_lines : MachBufferFinalized → List (List ℕ)
site_lines f = map try_line f.try_call_sites.items ++ (map patch_line f.patchable_sites.items ++ map map_line f.stack_maps.items)

-- the text of a finished code: its bytes, its alignment, and its tables in order, each entry's line in the table's order
abbrev pub emit_text : MachBufferFinalized → List ℕ
emit_text f = text_of_lines (code_head_lines f ++ (start_offset_lines f ++ (code_lines f ++ site_lines f)))
