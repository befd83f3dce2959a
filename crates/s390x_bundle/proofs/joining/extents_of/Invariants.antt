use Rattle.std.proofs.Common.{◌≡◌, ◌++◌, drop, map}
use Rattle.s390x_bundle.specs.Joined.{extent_of}
use Rattle.s390x_bundle.proofs.joining.extents_of.Given as goal

abbrev pub invariant-loop-code : goal.invariant-loop-code
invariant-loop-code l = l.extents.items ++ map extent_of (drop l.code-index l.codes) ≡ map extent_of l.codes
