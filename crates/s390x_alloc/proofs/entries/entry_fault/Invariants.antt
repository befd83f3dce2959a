use Rattle.std.proofs.Common.{◌≡◌, List, drop, length}
use Rattle.s390x_alloc.specs.Entries.{entry_fault}
use Rattle.s390x_alloc.specs.Locations.{AreMapsOf}
use Rattle.s390x_alloc.specs.declared.plan.EntryPair.{EntryPair}
use Rattle.s390x_alloc.proofs.entries.entry_fault.Given as goal

abbrev pub invariant-loop-number : goal.invariant-loop-number
invariant-loop-number l = (lists : List (List EntryPair)) → AreMapsOf l.ends lists →
    entry_fault l.blocks (length l.blocks) lists l.number (drop l.number l.plans) ≡ entry_fault l.blocks (length l.blocks) lists 0 l.plans
