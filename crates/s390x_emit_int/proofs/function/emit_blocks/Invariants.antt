use Rattle.std.proofs.Common.{◌≡◌, ℕ, ◌<◌, ◌≤◌, drop, map, length, get_or, None, false}
use Rattle.s390x_emit_int.specs.Emission.{function_fragments}
use Rattle.s390x_typed_steps.specs.Ranges.{BlocksInRange}
use Rattle.s390x_emit_int.specs.Function.{tree_of}
use Rattle.s390x_emit_int.specs.Fragments.{apply_all}
use Rattle.s390x_emit_int.specs.Room.{HasRoom}
use Rattle.s390x_buffer.specs.State.{limit}
use Rattle.s390x_typed_steps.specs.Folding.{folded_from, folded_trees, peak_from}
use Rattle.s390x_typed_steps.specs.Causes.{declared_in, blocks_cause}
use Rattle.s390x_emit_int.proofs.Blocks.{BlocksPassed}
use Rattle.s390x_emit_int.proofs.function.emit_blocks.Given as goal

abbrev pub invariant-loop-block : goal.invariant-loop-block
invariant-loop-block l = record {
  rest : apply_all l.sink (function_fragments (length l.sink.labels) l.block-index (folded_from l.block-index (map (tree_of l.fn.flags l.fn.state) (drop l.block-index l.blocks)))) ≡ apply_all l.initial.sink (function_fragments (length l.initial.sink.labels) 0 (folded_trees (map (tree_of l.fn.flags l.fn.state) l.blocks)));
  short : length l.sink.bytes < limit;
  longest : peak_from l.block-index (length l.sink.bytes) (map (tree_of l.fn.flags l.fn.state) (drop l.block-index l.blocks)) < limit → peak_from 0 (length l.initial.sink.bytes) (map (tree_of l.fn.flags l.fn.state) l.blocks) < limit;
  ranges : BlocksInRange (map (tree_of l.fn.flags l.fn.state) (drop l.block-index l.blocks)) → BlocksInRange (map (tree_of l.fn.flags l.fn.state) l.blocks);
  cause : blocks_cause l.fn.flags (declared_in l.sink) (length l.sink.labels) (map (tree_of l.fn.flags l.fn.state) (drop l.block-index l.blocks)) ≡ blocks_cause l.fn.flags (declared_in l.initial.sink) (length l.initial.sink.labels) (map (tree_of l.fn.flags l.fn.state) l.blocks);
  declared : declared_in l.sink ≡ declared_in l.initial.sink;
  passed : l.initial.sink.is_poisoned ≡ false → peak_from 0 (length l.initial.sink.bytes) (map (tree_of l.fn.flags l.fn.state) l.blocks) < limit → blocks_cause l.fn.flags (declared_in l.initial.sink) (length l.initial.sink.labels) (map (tree_of l.fn.flags l.fn.state) l.blocks) ≡ None →
      BlocksPassed l.fn.flags l.sink (declared_in l.initial.sink) l.block-index (map (tree_of l.fn.flags l.fn.state) (drop l.block-index l.blocks));
  label : l.label ≡ l.block-index;
  count : l.sink.block_count ≡ length l.blocks;
  room : HasRoom l.sink;
  free : (j : ℕ) → l.block-index ≤ j → j < length l.blocks → get_or l.sink.labels j None ≡ None;
}
