-- Retry loops of a function that is emitted and linked.
use Rattle.std.specs.Prelude.{ℕ, List}
use Rattle.s390x_buffer.specs.State.{Constant}
use Rattle.s390x_image.specs.Symbols.{Symbols}
use Rattle.s390x_typed_steps.specs.Tree.{Tree}
use Rattle.s390x_operations.specs.State.{CodeImage}
use Rattle.s390x_machine.specs.Functions.{function_layout}
use Rattle.s390x_schedule.specs.Schedule.{World, Tick, Scheduled}
use Rattle.s390x_emit_int.specs.Headline.{linked_environment}
use Rattle.s390x_interference.specs.Schedules.{GuardsLoops}

-- Symbols have these addresses. Under every schedule of processors of which none stores into the image, each retry loop of the function stores by its swap
-- alone, where the image lies in memory
abbrev pub GuardsFunction : Symbols → List Tree → List Constant → CodeImage → Type 0
GuardsFunction symbols ts cs image = (w : World) (ps : List ℕ) (ticks : List Tick) → Scheduled w ps ticks → GuardsLoops (function_layout (linked_environment symbols image.base ts cs) ts image) w ticks
