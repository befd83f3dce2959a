-- What the check of causes answers: how many labels and bytes, the bytes counted up to the limit of code.
use Rattle.std.specs.Prelude.{◌≡◌, ℕ, ◌+◌, ◌<◌, ◌≤◌, List, min}
use Rattle.s390x_typed_steps.specs.Folding.{folded_trees, peak}
use Rattle.s390x_typed_steps.specs.Sizes.{blocks_size}
use Rattle.s390x_typed_steps.specs.Tree.{Tree}
use Rattle.s390x_emit_int.specs.declared.check.CodeSize.{CodeSize}
use Rattle.s390x_emit_int.specs.declared.function.Lengths.{Lengths}

-- code ends below 2 ^ 31
abbrev pub code_limit : ℕ
code_limit = 2147483648

-- at most 2 ^ 32 label numbers are in use, and the bytes are counted up to the limit
pub record IsCounted (t : CodeSize) : Type 0 where
  pub labels : t.labels ≤ 4294967296
  pub bytes : t.bytes ≤ code_limit

-- after so many more labels and bytes
pub record Adds (t r : CodeSize) (labels_more bytes_more : ℕ) : Type 0 where
  pub counted : IsCounted r
  pub labels : r.labels ≡ t.labels + labels_more
  pub bytes : min code_limit r.bytes ≡ min code_limit (t.bytes + bytes_more)

-- how long blocks are: at their greatest, up to the limit of code; and below it in the end
pub record AreCounted (l : Lengths) (ts : List Tree) : Type 0 where
  pub few : l.longest ≤ code_limit
  pub longest : min code_limit l.longest ≡ min code_limit (peak ts)
  pub last : l.longest < code_limit → l.last ≡ blocks_size (folded_trees ts)
  pub low : l.longest < code_limit → l.last ≤ l.longest
