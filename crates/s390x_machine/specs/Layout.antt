-- What both sides are told of a function: its image, its typed steps, and where they stand.
use Rattle.std.specs.Prelude.{◌≡◌, ℕ, suc, ◌<◌, ◌≤◌, List}
use Rattle.s390x_buffer.specs.declared.entries.TrapEntry.{TrapEntry}
use Rattle.s390x_typed_steps.specs.Causes.{Declared}
use Rattle.s390x_typed_steps.specs.Steps.{Step}
use Rattle.s390x_typed_steps.specs.Rows.{Offsets}
use Rattle.s390x_operations.specs.State.{CodeImage, wrapping_add64}

-- addresses and offsets are counted in bytes: addresses from 0, offsets from the image's base
pub record Layout : Type 0 where
  -- the code and its constants, at their base
  pub image : CodeImage
  -- the typed steps, block by block
  pub steps : List Step
  -- the offset of each step, block and constant; at the number past the last step it is the code's end
  pub offsets : Offsets
  pub block_count : ℕ
  -- the number of a block's first step; where the block is empty, of the next step
  pub first_step : ℕ → ℕ
  -- the table of traps
  pub traps : List TrapEntry

-- where a step stands
abbrev pub step_address : Layout → ℕ → ℕ
step_address L k = wrapping_add64 L.image.base (L.offsets.step k)

-- where a block begins
abbrev pub block_address : Layout → ℕ → ℕ
block_address L b = wrapping_add64 L.image.base (L.offsets.block b)

-- where a constant stands
abbrev pub constant_address : Layout → ℕ → ℕ
constant_address L c = wrapping_add64 L.image.base (L.offsets.environment.constant c)

-- what the steps may name
abbrev pub declarations : Layout → Declared
declarations L = record { blocks = L.block_count; aligns = L.offsets.environment.aligns }

-- the address is that of one of a step's bytes
pub record InStep (L : Layout) (k p : ℕ) : Type 0 where
  pub offset : ℕ
  pub above : L.offsets.step k ≤ offset
  pub below : offset < L.offsets.step (suc k)
  pub is : p ≡ wrapping_add64 L.image.base offset
