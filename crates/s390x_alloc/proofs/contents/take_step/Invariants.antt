use Rattle.std.proofs.Common.{List, drop}
use Rattle.s390x_alloc.specs.Contents.{contents_after_step, with_operands}
use Rattle.s390x_alloc.specs.Locations.{IsMapOf}
use Rattle.s390x_alloc.specs.declared.plan.EntryPair.{EntryPair}
use Rattle.s390x_alloc.proofs.Following.{Reaches}
use Rattle.s390x_alloc.proofs.contents.take_step.Given as goal

abbrev pub invariant-loop-operand : goal.invariant-loop-operand
invariant-loop-operand l = (list : List EntryPair) → IsMapOf l.fn.held list → Reaches l.held (with_operands (drop l.operand-index l.operands)) (contents_after_step l.items l.operands list)
