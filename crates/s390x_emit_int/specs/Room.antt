-- The room in a buffer for what emission puts there.
use Rattle.std.specs.Prelude.{◌≡◌, ℕ, ◌+◌, ◌<◌, ◌≤◌, length, Option, None, Result, IfErr, false}
use Rattle.s390x_base.specs.declared.error.EmitError.{EmitError}
use Rattle.s390x_base.specs.declared.error.EmitError.TheVariants.{NoMemory}
use Rattle.s390x_buffer.specs.State.{BufferState, limit}
use Rattle.s390x_inst.specs.declared.state.IsaFlags.{IsaFlags}
use Rattle.s390x_typed_steps.specs.Tree.{Tree}
use Rattle.s390x_typed_steps.specs.Sizes.{tree_size}
use Rattle.s390x_typed_steps.specs.Causes.{declared_in, tree_cause}

-- the labels of a buffer come in this order: the blocks', the constants', those that were drawn
abbrev pub HasRoom : BufferState → Type 0
HasRoom s = s.block_count + length s.constants ≤ length s.labels

-- What the check let pass goes into the buffer: no cause stands, the buffer isn't poisoned, its blocks and the label behind the innermost loop
-- are among its labels, and so many more bytes end below the limit of code.
pub record FitsWithoutCause (s : BufferState) (after bytes : ℕ) (cause : Option EmitError) : Type 0 where
  pub unpoisoned : s.is_poisoned ≡ false
  pub blocks : s.block_count ≤ length s.labels
  pub label : after < length s.labels
  pub short : length s.bytes + bytes < limit
  pub passed : cause ≡ None

-- Members inside so many loops go into the buffer: a label behind the innermost loop is needed only where there is a loop.
pub record MembersFit (s : BufferState) (after depth bytes : ℕ) (cause : Option EmitError) : Type 0 where
  pub unpoisoned : s.is_poisoned ≡ false
  pub blocks : s.block_count ≤ length s.labels
  pub label : 0 < depth → after < length s.labels
  pub short : length s.bytes + bytes < limit
  pub passed : cause ≡ None

-- a tree at a nominal size goes into the buffer
abbrev pub TreeFits : IsaFlags → BufferState → (after nominal depth : ℕ) → Tree → Type 0
TreeFits flags s after nominal depth t = MembersFit s after depth (tree_size t) (tree_cause flags (declared_in s) (length s.labels) nominal depth t)

-- an error is want of memory
abbrev pub OnlyOutOfMemory : {T : Type 0} → Result T EmitError → Type 0
OnlyOutOfMemory r = IfErr r (λ e. e ≡ NoMemory)
