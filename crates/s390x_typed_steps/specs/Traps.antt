-- The table of traps: the codes of the stops that the steps may bring about, by their offsets in the code.
use Rattle.std.specs.Prelude.{ℕ, ◌+◌, List, [], ◌∷◌, ◌++◌, Option, Some, None, ◌==◌, if◌then◌else◌}
use Rattle.s390x_base.specs.declared.trap.TrapKind.{TrapKind}
use Rattle.s390x_buffer.specs.declared.entries.TrapEntry.{TrapEntry}
use Rattle.s390x_typed_steps.specs.Tree.{Tree}
use Rattle.s390x_typed_steps.specs.Steps.{Step, function_steps}
use Rattle.s390x_typed_steps.specs.Parts.{CodePart, Trapping, TrapHere, part_size, step_parts}
use Rattle.s390x_typed_steps.specs.Image.{step_offset}

-- the trap that a part at an offset records, if it does
abbrev pub part_traps : ℕ → CodePart → List TrapEntry
part_traps p (Trapping m byte code) = record { offset = p + byte; code = code } ∷ []
part_traps p (TrapHere code) = record { offset = p; code = code } ∷ []
part_traps p _ = []

-- those of parts from an offset on
abbrev pub parts_traps : ℕ → List CodePart → List TrapEntry
parts_traps p [] = []
parts_traps p (part ∷ parts) = part_traps p part ++ parts_traps (p + part_size part) parts

-- those of a step at an offset
abbrev pub step_traps : ℕ → Step → List TrapEntry
step_traps p s = parts_traps p (step_parts s)

-- those of the steps from number k on, in the order of the steps
abbrev pub traps_from : (ℕ → ℕ) → ℕ → List Step → List TrapEntry
traps_from at k [] = []
traps_from at k (s ∷ ss) = step_traps (at k) s ++ traps_from at (k + 1) ss

-- the table of a function: its steps' traps, and no others
abbrev pub function_traps : List Tree → List TrapEntry
function_traps ts = traps_from (step_offset (function_steps ts)) 0 (function_steps ts)

-- the code of the first entry at an offset
abbrev pub first_code : List TrapEntry → ℕ → Option TrapKind
first_code [] offset = None
first_code (e ∷ es) offset = if e.offset == offset then Some e.code else first_code es offset
