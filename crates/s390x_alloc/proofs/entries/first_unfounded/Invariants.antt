use Rattle.std.proofs.Common.{◌≡◌, List, drop}
use Rattle.s390x_alloc.specs.Entries.{first_unfounded}
use Rattle.s390x_alloc.specs.Locations.{AreMapsOf}
use Rattle.s390x_alloc.specs.declared.plan.EntryPair.{EntryPair}
use Rattle.s390x_alloc.proofs.entries.first_unfounded.Given as goal

abbrev pub invariant-loop-number : goal.invariant-loop-number
invariant-loop-number l = (lists : List (List EntryPair)) → AreMapsOf l.ends lists →
    first_unfounded lists l.before l.block l.number (drop l.number l.entry) ≡ first_unfounded lists l.before l.block 0 l.entry
