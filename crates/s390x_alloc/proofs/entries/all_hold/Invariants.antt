use Rattle.std.proofs.Common.{◌≡◌, List, drop}
use Rattle.s390x_alloc.specs.Entries.{all_hold}
use Rattle.s390x_alloc.specs.Locations.{AreMapsOf, pair_of}
use Rattle.s390x_alloc.specs.declared.plan.EntryPair.{EntryPair}
use Rattle.s390x_alloc.proofs.entries.all_hold.Given as goal

abbrev pub invariant-loop-block : goal.invariant-loop-block
invariant-loop-block l = (lists : List (List EntryPair)) → AreMapsOf l.ends lists →
    all_hold lists (drop l.block-index l.blocks) (pair_of l.place l.num l.class) ≡ all_hold lists l.blocks (pair_of l.place l.num l.class)
