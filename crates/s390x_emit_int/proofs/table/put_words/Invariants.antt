use Rattle.std.proofs.Common.{◌≡◌, ℕ, ◌+◌, ◌*◌, drop, length}
use Rattle.s390x_buffer.specs.Extends.{Extends}
use Rattle.s390x_typed_steps.specs.Parts.{table_words}
use Rattle.s390x_emit_int.specs.Fragments.{apply_all}
use Rattle.s390x_emit_int.specs.Emission.{part_fragments}
use Rattle.s390x_emit_int.proofs.Tables.{WordsPassed}
use Rattle.s390x_emit_int.proofs.table.put_words.Given as goal

abbrev pub invariant-loop-target : goal.invariant-loop-target
invariant-loop-target l = record {
  kept : Extends l.initial.sink l.sink;
  place : length l.sink.bytes ≡ l.table + 4 * l.target-index;
  rest : apply_all l.sink (part_fragments (table_words (4 * l.target-index) (drop l.target-index l.targets))) ≡ apply_all l.initial.sink (part_fragments (table_words 0 l.targets));
  passed : (after : ℕ) → WordsPassed l.initial.sink after l.targets → WordsPassed l.sink after (drop l.target-index l.targets);
}
