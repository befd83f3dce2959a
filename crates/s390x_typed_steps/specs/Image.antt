-- The code of a function: the bytes of its steps, one after another, at offsets that the steps' sizes alone decide.
use Rattle.std.specs.Prelude.{ℕ, zero, suc, ◌+◌, List, [], ◌∷◌, ◌++◌, get_or}
use Rattle.s390x_buffer.specs.State.{Constant}
use Rattle.s390x_buffer.specs.Constants.{constant_starts}
use Rattle.s390x_typed_steps.specs.Tree.{Tree}
use Rattle.s390x_typed_steps.specs.Steps.{Step, step_count, function_steps, first_step}
use Rattle.s390x_typed_steps.specs.Parts.{step_size}
use Rattle.s390x_typed_steps.specs.Rows.{LinkEnvironment, Offsets, step_bytes}
use Rattle.s390x_typed_steps.specs.Causes.{aligns_of}
use Rattle.s390x_typed_steps.specs.Sizes.{blocks_size}

-- where a step stands: behind all steps before it; the offset past the last step is the code's end
abbrev pub step_offset : List Step → ℕ → ℕ
step_offset [] k = 0
step_offset (s ∷ ss) zero = 0
step_offset (s ∷ ss) (suc k) = step_size s + step_offset ss k

-- the offsets of a function; a block starts where its first step does
abbrev pub offsets : LinkEnvironment → List Tree → Offsets
offsets environment ts = record { step = step_offset (function_steps ts); block = λ b. step_offset (function_steps ts) (first_step ts b); environment = environment }

-- where each constant stands behind the code; 0 for one that isn't declared
abbrev pub constant_offset : List Tree → List Constant → ℕ → ℕ
constant_offset ts cs c = get_or (constant_starts (blocks_size ts) cs) c 0

-- the link environment of the steps before linking: the constants, and zeros for what linking fills
abbrev pub unlinked_environment : List Tree → List Constant → LinkEnvironment
unlinked_environment ts cs = record { constant = constant_offset ts cs; aligns = aligns_of cs; symbol_value = λ name offset. 0; symbol_distance = λ origin name offset. 0 }

-- the bytes of the steps from number k on
abbrev pub code : Offsets → ℕ → List Step → List ℕ
code P k [] = []
code P k (s ∷ ss) = step_bytes P (P.step k) s ++ code P (k + 1) ss

-- the code of a function, without its constants
abbrev pub function_code : LinkEnvironment → List Tree → List ℕ
function_code environment ts = code (offsets environment ts) 0 (function_steps ts)

-- the offset of each step, from number k on
abbrev pub step_offsets : (ℕ → ℕ) → ℕ → List Step → List ℕ
step_offsets at k [] = []
step_offsets at k (s ∷ ss) = at k ∷ step_offsets at (k + 1) ss

-- the offset of each block's first step
abbrev pub block_offsets : (ℕ → ℕ) → ℕ → List Tree → List ℕ
block_offsets at k [] = []
block_offsets at k (t ∷ ts) = at k ∷ block_offsets at (k + step_count t) ts
