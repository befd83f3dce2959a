-- The listing of a function's code, beside its typed instructions.
use Rattle.std.specs.Prelude.{◌≡◌, ℕ, List, get_or, length, map, min}
use Rattle.s390x_inst.specs.Emission.{Emission}
use Rattle.s390x_inst.specs.declared.state.IsaFlags.{IsaFlags}
use Rattle.s390x_inst.specs.declared.function.Block.{Block}
use Rattle.s390x_buffer.specs.declared.entries.MachBufferFinalized.{MachBufferFinalized}
use Rattle.s390x_disassembler.specs.declared.noted.Note.{Note}
use Rattle.s390x_disassembler.specs.Noted.{IsNoted}
use Rattle.s390x_binary_tool.specs.Notes.{notes_of, plain_note}

-- how many bytes stand before the first constant; all, where there is none
abbrev pub code_length : MachBufferFinalized → (bytes : List ℕ) → ℕ
code_length f bytes = min (get_or f.constant_starts.items 0 (length bytes)) (length bytes)

-- the text is the disassembly of these bytes at the base, the constants as data, with the notes of the blocks and the tables
pub record IsCodeListing (flags : IsaFlags) (e : Emission) (blocks : List Block) (f : MachBufferFinalized) (base : ℕ) (bytes text : List ℕ) : Type 0 where
  pub notes : List Note
  pub are : map plain_note notes ≡ notes_of flags e base blocks f
  pub noted : IsNoted base bytes (code_length f bytes) notes text
