-- The notes of a listing: what stands between the lines of the code.
use Rattle.std.specs.Prelude.{◌≡◌, ℕ, ◌+◌, List, [], ◌∷◌, ◌++◌, codes, get_or, drop, map, false, string_bytes}
use Rattle.std.specs.Fmt.{decimal, signed_decimal, digits}
use Rattle.s390x_inst.specs.Emission.{Emission}
use Rattle.s390x_inst.specs.declared.inst.Inst.{Inst}
use Rattle.s390x_inst.specs.declared.state.IsaFlags.{IsaFlags}
use Rattle.s390x_inst.specs.declared.function.Block.{Block}
use Rattle.s390x_buffer.specs.declared.entries.RelocEntry.{RelocEntry}
use Rattle.s390x_buffer.specs.declared.entries.TrapEntry.{TrapEntry}
use Rattle.s390x_buffer.specs.declared.entries.MachBufferFinalized.{MachBufferFinalized}
use Rattle.s390x_job_fields.specs.Atoms.{trap_text}
use Rattle.s390x_text.specs.Instructions.{after, inst_text}
use Rattle.s390x_disassembler.specs.Disassembly.{address_of}
use Rattle.s390x_tool.specs.Emitted.{reloc_kind_text}
use Rattle.s390x_binary_tool.specs.InstSteps.{steps_of}
use Rattle.s390x_disassembler.specs.declared.noted.Note.{Note}

-- the place of a note, and its text
abbrev pub plain_note : Note → ℕ × List ℕ
plain_note n = (n.offset, string_bytes n.text)

-- the address of an offset, in hexadecimal digits
abbrev pub address_text : (base offset : ℕ) → List ℕ
address_text base offset = digits 16 false (address_of base offset)

-- ` at ADDRESS` behind a name and a number
abbrev pub placed_text : List ℕ → (number base offset : ℕ) → List ℕ
placed_text name number base offset = name ++ (32 ∷ (decimal number ++ (codes " at " ++ address_text base offset)))

-- that, at the offset
abbrev pub placed_note : List ℕ → (base number offset : ℕ) → ℕ × List ℕ
placed_note name base number offset = (offset, placed_text name number base offset)

-- the text of an instruction behind two blanks
abbrev pub inst_line : IsaFlags → Emission → Inst → List ℕ
inst_line flags e i = 32 ∷ (32 ∷ (inst_text flags 0 e i).bytes)

-- a note for each instruction, in the state behind those before it: its text, at the first of its steps, with which these starts begin
abbrev pub inst_notes : IsaFlags → Emission → (starts : List ℕ) → List Inst → List (ℕ × List ℕ)
inst_notes flags e starts [] = []
inst_notes flags e starts (i ∷ is) = (get_or starts 0 0, inst_line flags e i) ∷ inst_notes flags (after e i) (drop (steps_of e i) starts) is

-- the starts behind those of instructions
abbrev pub starts_behind : Emission → (starts : List ℕ) → List Inst → List ℕ
starts_behind e starts [] = starts
starts_behind e starts (i ∷ is) = starts_behind (after e i) (drop (steps_of e i) starts) is

-- for each block, counted from a number on, `block K at ADDRESS` at its start, and the notes of its instructions, with whose steps these starts begin
abbrev pub block_notes : IsaFlags → Emission → (base : ℕ) → (block_starts starts : List ℕ) → (number : ℕ) → List Block → List (ℕ × List ℕ)
block_notes flags e base block_starts starts k [] = []
block_notes flags e base block_starts starts k (b ∷ bs) =
    placed_note (codes "block") base k (get_or block_starts k 0)
    ∷ (inst_notes flags e starts b.insts.items ++ block_notes flags e base block_starts (starts_behind e starts b.insts.items) (k + 1) bs)

-- `const K at ADDRESS` for each constant at its start
abbrev pub constant_notes : (base number : ℕ) → (starts : List ℕ) → List (ℕ × List ℕ)
constant_notes base k [] = []
constant_notes base k (s ∷ ss) = placed_note (codes "const") base k s ∷ constant_notes base (k + 1) ss

-- `ADDRESS: KIND uN ADDEND` behind six blanks, at its field
abbrev pub reloc_note : (base : ℕ) → RelocEntry → ℕ × List ℕ
reloc_note base r =
    (r.offset, codes "      " ++ (address_text base r.offset ++ (codes ": " ++ (reloc_kind_text r.kind ++ (codes " u" ++ (decimal r.name.0 ++ (32 ∷ signed_decimal r.addend)))))))

-- `ADDRESS: trap CODE` behind six blanks, at its place
abbrev pub trap_note : (base : ℕ) → TrapEntry → ℕ × List ℕ
trap_note base t = (t.offset, codes "      " ++ (address_text base t.offset ++ (codes ": trap " ++ trap_text t.code)))

-- those of a finished code's tables
abbrev pub entry_notes : (base : ℕ) → MachBufferFinalized → List (ℕ × List ℕ)
entry_notes base f = constant_notes base 0 f.constant_starts.items ++ (map (reloc_note base) f.relocs.items ++ map (trap_note base) f.traps.items)

-- all notes; where several have one place, those of blocks and instructions stand before the others
abbrev pub notes_of : IsaFlags → Emission → (base : ℕ) → List Block → MachBufferFinalized → List (ℕ × List ℕ)
notes_of flags e base blocks f = block_notes flags e base f.block_starts.items f.starts.items 0 blocks ++ entry_notes base f
