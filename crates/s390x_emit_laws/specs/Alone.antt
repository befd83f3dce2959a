-- An instruction that `emit` puts behind whatever stands in a buffer, as a function by itself, wherever its bytes stand.
use Rattle.std.specs.Prelude.{◌≡◌, ℕ, ◌+◌, ◌-◌, ◌%◌, ◌^◌, ◌<◌, ◌≤◌, List, [], ◌∷◌, ◌++◌, length, Some, None, slice_get}
use Rattle.s390x_buffer.specs.Patch.{offset_of_label, patch_all}
use Rattle.s390x_buffer.specs.State.{BufferState}
use Rattle.s390x_inst.specs.Emission.{Emission}
use Rattle.s390x_inst.specs.declared.inst.Inst.{Inst}
use Rattle.s390x_inst.specs.declared.state.IsaFlags.{IsaFlags}
use Rattle.s390x_typed_steps.specs.Causes.{aligns_of, blocks_cause}
use Rattle.s390x_typed_steps.specs.Image.{step_offset}
use Rattle.s390x_typed_steps.specs.Parts.{step_parts}
use Rattle.s390x_typed_steps.specs.Ranges.{BlocksInRange}
use Rattle.s390x_typed_steps.specs.Rows.{LinkEnvironment, Offsets}
use Rattle.s390x_typed_steps.specs.Steps.{Step, function_steps}
use Rattle.s390x_typed_steps.specs.Tree.{Tree}
use Rattle.s390x_operations.specs.State.{CodeImage}
use Rattle.s390x_machine.specs.CodeAt.{ConstantStands, PartsReach}
use Rattle.s390x_machine.specs.Functions.{function_layout}
use Rattle.s390x_machine.specs.Layout.{Layout}
use Rattle.s390x_emit_int.specs.Bound.{TreeNames}
use Rattle.s390x_emit_int.specs.Emission.{own_fragments}
use Rattle.s390x_emit_int.specs.Fragments.{apply_all}
use Rattle.s390x_emit_int.specs.Instruction.{emit_cause}
use Rattle.s390x_emit_int.specs.Members.{member_of}
use Rattle.s390x_emit_int.specs.Resolve.{UsesWithin}

-- a buffer's bytes, each use patched to where its label stands
abbrev pub patched_bytes : (off : ℕ → ℕ) → BufferState → List ℕ
patched_bytes off s = patch_all off s.uses s.bytes

-- the labels from number n on stand where a buffer has bound them
abbrev pub StandAsBound : (off : ℕ → ℕ) → (n : ℕ) → BufferState → Type 0
StandAsBound off n s = (l : ℕ) → n ≤ l → l < length s.labels → off l ≡ offset_of_label s.labels l

-- the declared constants stand behind a buffer's bytes
abbrev pub ConstantsBehind : (off : ℕ → ℕ) → BufferState → Type 0
ConstantsBehind off s = (c : ℕ) → c < length (aligns_of s.constants) → length s.bytes ≤ off (s.block_count + c)

-- an instruction as a function of one block
abbrev pub alone : IsaFlags → Emission → Inst → List Tree
alone flags e i = member_of flags e i ∷ []

-- what `emit` leaves of a buffer
abbrev pub emitted_buffer : IsaFlags → Emission → BufferState → Inst → BufferState
emitted_buffer flags e s i = apply_all s (own_fragments (length s.labels) 0 (member_of flags e i))

-- what instructions refer to outside themselves before linking: the constants, where their labels stand behind those of the blocks
abbrev pub outside : (off : ℕ → ℕ) → BufferState → LinkEnvironment
outside off s = record { constant = λ c. off (s.block_count + c); aligns = aligns_of s.constants; symbol_value = λ name offset. 0; symbol_distance = λ origin name offset. 0 }

-- the offsets of an instruction's steps behind a buffer's bytes, and of blocks where their labels stand
abbrev pub placed_offsets : (off : ℕ → ℕ) → BufferState → List Tree → Offsets
placed_offsets off s ts = record { step = λ k. length s.bytes + step_offset (function_steps ts) k; block = off; environment = outside off s }

-- what an instruction refers to outside itself, counted from its own first byte
abbrev pub surroundings : (off : ℕ → ℕ) → BufferState → LinkEnvironment
surroundings off s = record {
  constant = λ c. off (s.block_count + c) - length s.bytes;
  aligns = aligns_of s.constants;
  symbol_value = λ name offset. 0;
  symbol_distance = λ origin name offset. 0;
}

-- `emit` has no cause to refuse an instruction. The labels that it draws stand where it binds them, and the uses of labels in the buffer before patch bytes of that alone
pub record IsAppended (off : ℕ → ℕ) (flags : IsaFlags) (e : Emission) (s : BufferState) (i : Inst) : Type 0 where
  pub valid : emit_cause flags e.nominal s (member_of flags e i) ≡ None
  pub labels : StandAsBound off (length s.labels) (emitted_buffer flags e s i)
  pub within : UsesWithin (length s.bytes) s.uses

-- the layout of an instruction alone, in the image that begins with it
abbrev pub layout_alone : (off : ℕ → ℕ) → IsaFlags → Emission → BufferState → Inst → CodeImage → Layout
layout_alone off flags e s i image = function_layout (surroundings off s) (alone flags e i) image

-- From the instruction's first byte on, an image has what the buffer's bytes are then, and whatever follows; it lies at an even address. No cause refuses the function of that
-- instruction alone, with some labels in use; it names no block, and no symbol by its distance, and the constants stand behind it, on their boundaries
pub record StandsAlone (off : ℕ → ℕ) (flags : IsaFlags) (e : Emission) (s : BufferState) (i : Inst) (image : CodeImage) : Type 0 where
  pub no_block : TreeNames 0 (length (aligns_of s.constants)) (member_of flags e i)
  pub constants : ConstantsBehind off s
  pub later : List ℕ
  pub bytes : patched_bytes off (emitted_buffer flags e s i) ++ later ≡ patched_bytes off s ++ image.bytes
  pub even : image.base % 2 ≡ 0
  pub fits : image.base + length image.bytes ≤ 2 ^ 64
  pub short : length image.bytes < 2 ^ 31
  pub labels_in_use : ℕ
  pub checked : blocks_cause flags (record { blocks = 1; aligns = aligns_of s.constants }) labels_in_use (alone flags e i) ≡ None
  pub ranges : BlocksInRange (alone flags e i)
  pub reached : (k : ℕ) (x : Step) → slice_get (function_steps (alone flags e i)) k ≡ Some x → PartsReach (layout_alone off flags e s i image) (step_offset (function_steps (alone flags e i)) k) (step_parts x)
  pub stand : (c : ℕ) → c < length (aligns_of s.constants) → ConstantStands (layout_alone off flags e s i image) c
