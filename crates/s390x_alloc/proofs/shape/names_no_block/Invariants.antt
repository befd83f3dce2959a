use Rattle.std.proofs.Common.{◌≡◌, drop}
use Rattle.s390x_alloc.specs.Shape.{names_no_block}
use Rattle.s390x_alloc.proofs.shape.names_no_block.Given as goal

abbrev pub invariant-loop-label : goal.invariant-loop-label
invariant-loop-label l = names_no_block l.count (drop l.label-index l.labels) ≡ names_no_block l.count l.labels
