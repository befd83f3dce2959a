-- The steps of an instruction that `emit` puts behind whatever stands in a buffer, in the image of the whole buffer.
use Rattle.std.specs.Prelude.{◌≡◌, ℕ, zero, suc, ◌+◌, ◌%◌, ◌^◌, ◌<◌, ◌≤◌, List, [], ◌∷◌, ◌++◌, length, Some, slice_get}
use Rattle.s390x_buffer.specs.State.{BufferState}
use Rattle.s390x_inst.specs.Emission.{Emission}
use Rattle.s390x_inst.specs.declared.inst.Inst.{Inst}
use Rattle.s390x_inst.specs.declared.state.IsaFlags.{IsaFlags}
use Rattle.s390x_typed_steps.specs.Causes.{aligns_of}
use Rattle.s390x_typed_steps.specs.Parts.{step_parts, step_size}
use Rattle.s390x_typed_steps.specs.Ranges.{BlocksInRange}
use Rattle.s390x_typed_steps.specs.Steps.{Step, function_steps}
use Rattle.s390x_typed_steps.specs.Traps.{traps_from}
use Rattle.s390x_operations.specs.State.{CodeImage}
use Rattle.s390x_machine.specs.CodeAt.{ConstantStands, IsPlace, NamesConstant, PartsReach}
use Rattle.s390x_machine.specs.Layout.{Layout}
use Rattle.s390x_emit_laws.specs.Alone.{alone, emitted_buffer, outside, patched_bytes}

-- the steps from an offset on, what stands behind them, and then each block where its label stands
abbrev pub places : (block : ℕ → ℕ) → (offset : ℕ) → List Step → ℕ → ℕ
places block offset [] zero = offset
places block offset [] (suc b) = block b
places block offset (s ∷ ss) zero = offset
places block offset (s ∷ ss) (suc k) = places block (offset + step_size s) ss k

-- the layout of an instruction's steps behind a buffer's bytes; the blocks are the buffer's
abbrev pub layout_behind : (off : ℕ → ℕ) → IsaFlags → Emission → BufferState → Inst → CodeImage → Layout
layout_behind off flags e s i image =
    let ss = function_steps (alone flags e i) in
    let step = places off (length s.bytes) ss in
    record {
      image = image;
      steps = ss;
      offsets = record { step = step; block = off; environment = outside off s };
      block_count = s.block_count;
      first_step = λ b. suc (length ss + b);
      traps = traps_from step 0 ss;
    }

-- The image has what the buffer's bytes are then, and whatever follows. It lies at an even address; the instruction and all blocks stand at places of it, and what the instruction names by
-- a distance is there: each constant on its boundary, and a symbol where the distance leads
pub record StandsBehind (off : ℕ → ℕ) (flags : IsaFlags) (e : Emission) (s : BufferState) (i : Inst) (image : CodeImage) : Type 0 where
  pub ranges : BlocksInRange (alone flags e i)
  pub later : List ℕ
  pub bytes : image.bytes ≡ patched_bytes off (emitted_buffer flags e s i) ++ later
  pub even : image.base % 2 ≡ 0
  pub fits : image.base + length image.bytes ≤ 2 ^ 64
  pub short : length image.bytes < 2 ^ 31
  pub place : length s.bytes % 2 ≡ 0
  pub blocks : (b : ℕ) → b < s.block_count → IsPlace (off b)
  pub constants : (k : ℕ) (x : Step) → slice_get (function_steps (alone flags e i)) k ≡ Some x → (c : ℕ) → c < length (aligns_of s.constants) → NamesConstant c (step_parts x) → ConstantStands (layout_behind off flags e s i image) c
  pub reached : (k : ℕ) (x : Step) → slice_get (function_steps (alone flags e i)) k ≡ Some x → PartsReach (layout_behind off flags e s i image) (places off (length s.bytes) (function_steps (alone flags e i)) k) (step_parts x)
