use Rattle.std.proofs.Common.{◌≡◌, ◌++◌, None, drop}
use Rattle.s390x_bundle.specs.Places.{first_misplaced, starts_behind}
use Rattle.s390x_bundle.proofs.places.starts_of.Given as goal

abbrev pub invariant-loop-number : goal.invariant-loop-number
invariant-loop-number l = record {
  starts : l.starts.items ++ starts_behind l.end (drop l.number l.members) ≡ starts_behind None l.members;
  cause : first_misplaced l.base l.end l.number (drop l.number l.members) ≡ first_misplaced l.base None 0 l.members;
}
