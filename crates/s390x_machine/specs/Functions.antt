-- The layout of a function whose code stands at the beginning of an image.
use Rattle.std.specs.Prelude.{◌≡◌, ℕ, ◌+◌, ◌%◌, ◌^◌, ◌<◌, ◌≤◌, List, ◌++◌, length, Some, slice_get}
use Rattle.s390x_typed_steps.specs.Tree.{Tree}
use Rattle.s390x_typed_steps.specs.Steps.{Step, function_steps, first_step}
use Rattle.s390x_typed_steps.specs.Image.{step_offset, offsets, function_code}
use Rattle.s390x_typed_steps.specs.Parts.{step_parts}
use Rattle.s390x_typed_steps.specs.Rows.{LinkEnvironment}
use Rattle.s390x_typed_steps.specs.Traps.{function_traps}
use Rattle.s390x_operations.specs.State.{CodeImage}
use Rattle.s390x_machine.specs.Layout.{Layout}
use Rattle.s390x_machine.specs.CodeAt.{IsValidStep, IsFoldedRight, PartsReach, ConstantStands}

-- the link environment, the function's blocks as trees, and its image
abbrev pub function_layout : LinkEnvironment → List Tree → CodeImage → Layout
function_layout environment ts image = record {
  image = image;
  steps = function_steps ts;
  offsets = offsets environment ts;
  block_count = length ts;
  first_step = first_step ts;
  traps = function_traps ts;
}

-- the image has the function's linked code and then its constants; it lies at an even address below 2 ^ 64 and is shorter than 2 ^ 31 bytes;
-- each step is one that emission lets pass, and leads on where it has lost branches, and its distances lead to the symbols; and each constant stands on its boundary
pub record StandsAsCode (environment : LinkEnvironment) (ts : List Tree) (image : CodeImage) : Type 0 where
  pub constants : List ℕ
  pub bytes : image.bytes ≡ function_code environment ts ++ constants
  pub even : image.base % 2 ≡ 0
  pub fits : image.base + length image.bytes ≤ 2 ^ 64
  pub short : length image.bytes < 2 ^ 31
  pub valid : (k : ℕ) (s : Step) → slice_get (function_steps ts) k ≡ Some s → IsValidStep (function_layout environment ts image) s
  pub folded : (k : ℕ) (s : Step) → slice_get (function_steps ts) k ≡ Some s → IsFoldedRight (function_layout environment ts image) k s
  pub reached : (k : ℕ) (s : Step) → slice_get (function_steps ts) k ≡ Some s → PartsReach (function_layout environment ts image) (step_offset (function_steps ts) k) (step_parts s)
  pub stand : (c : ℕ) → c < length environment.aligns → ConstantStands (function_layout environment ts image) c
