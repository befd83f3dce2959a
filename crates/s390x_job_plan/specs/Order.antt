-- The order of a plan's lines.
use Rattle.std.specs.Prelude.{Option, Some, None, List, [], ◌∷◌}
use Rattle.s390x_job_plan.specs.Lines.{Closing, Heading, Held, Moving, Opening, PlanLine, Stepping}

-- before `plan`; before the first block; among the pairs with which a block begins; among its edits; behind `close`
pub data Stage : Type 0 where
  AtStart : Stage
  Ahead : Stage
  InEntry : Stage
  InEdits : Stage
  AtEnd : Stage

-- the place after one more line
abbrev pub next_stage : Stage → PlanLine → Option Stage
next_stage AtStart Heading = Some Ahead
next_stage Ahead Opening = Some InEntry
next_stage Ahead Closing = Some AtEnd
next_stage InEntry Opening = Some InEntry
next_stage InEntry (Held place vreg) = Some InEntry
next_stage InEntry (Moving to from) = Some InEdits
next_stage InEntry (Stepping regs) = Some InEdits
next_stage InEntry Closing = Some AtEnd
next_stage InEdits Opening = Some InEntry
next_stage InEdits (Moving to from) = Some InEdits
next_stage InEdits (Stepping regs) = Some InEdits
next_stage InEdits Closing = Some AtEnd
next_stage _ _ = None

-- the place after these lines
abbrev pub run : Option Stage → List PlanLine → Option Stage
run None ls = None
run (Some s) [] = Some s
run (Some s) (l ∷ ls) = run (next_stage s l) ls
