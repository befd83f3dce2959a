use Rattle.std.proofs.Common.{◌≡◌, drop, map}
use Rattle.s390x_typed_steps.specs.Causes.{declared_in, blocks_cause}
use Rattle.s390x_typed_steps.specs.Folding.{folded_trees, peak}
use Rattle.s390x_typed_steps.specs.Sizes.{blocks_size}
use Rattle.s390x_emit_int.specs.Function.{tree_of}
use Rattle.s390x_emit_int.specs.CodeSize.{IsCounted}
use Rattle.s390x_emit_int.proofs.Peaks.{Counts}
use Rattle.s390x_emit_int.proofs.function.check_blocks.Given as goal

abbrev pub invariant-loop-block : goal.invariant-loop-block
invariant-loop-block l = record {
  cause : blocks_cause l.fn.flags (declared_in l.fn.sink) l.sum.labels (map (tree_of l.fn.flags l.fn.state) (drop l.block-index l.blocks)) ≡ blocks_cause l.fn.flags (declared_in l.fn.sink) l.fn.labels (map (tree_of l.fn.flags l.fn.state) l.blocks);
  counts : Counts l.block-index l.longest l.sum.bytes (map (tree_of l.fn.flags l.fn.state) (drop l.block-index l.blocks)) (peak (map (tree_of l.fn.flags l.fn.state) l.blocks)) (blocks_size (folded_trees (map (tree_of l.fn.flags l.fn.state) l.blocks)));
  counted : IsCounted l.sum;
  number : l.number ≡ l.block-index;
}
