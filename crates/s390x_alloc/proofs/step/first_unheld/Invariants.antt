use Rattle.std.proofs.Common.{◌≡◌, List, drop}
use Rattle.s390x_alloc.specs.Locations.{IsMapOf}
use Rattle.s390x_alloc.specs.Steps.{first_unheld}
use Rattle.s390x_alloc.specs.declared.plan.EntryPair.{EntryPair}
use Rattle.s390x_alloc.proofs.step.first_unheld.Given as goal

abbrev pub invariant-loop-number : goal.invariant-loop-number
invariant-loop-number l = (list : List EntryPair) → IsMapOf l.held list → first_unheld list l.number (drop l.number l.operands) ≡ first_unheld list 0 l.operands
