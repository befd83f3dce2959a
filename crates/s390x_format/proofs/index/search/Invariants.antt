use Rattle.std.proofs.Common.{ℕ, ◌+◌, ◌-◌, ◌*◌, ◌^◌, ◌<◌, ◌≤◌, get_or}
use Rattle.s390x_format.specs.Reading.{no_row}
use Rattle.s390x_format.specs.Index.{no_first_byte}
use Rattle.s390x_format.proofs.index.search.Given as goal

abbrev pub invariant-loop-low : goal.invariant-loop-low
invariant-loop-low g l = record {
  end : l.high ≤ (get_or l.firsts l.first no_first_byte).end;
  order : l.low ≤ l.high;
  start : (get_or l.firsts l.first no_first_byte).start ≤ l.low;
  below : (k : ℕ) → (get_or l.firsts l.first no_first_byte).start ≤ k → k < l.low → (get_or l.rows k no_row).opcode < l.opcode;
  above : (k : ℕ) → l.high ≤ k → k < (get_or l.firsts l.first no_first_byte).end → l.opcode < (get_or l.rows k no_row).opcode;
  rise : l.initial.steps ≤ l.steps;
  halves : 2 ^ (l.steps - l.initial.steps) * (l.high - l.low) ≤ (get_or l.firsts l.first no_first_byte).end - (get_or l.firsts l.first no_first_byte).start;
  few : 2 ^ (l.steps - l.initial.steps) ≤ 2 * ((get_or l.firsts l.first no_first_byte).end - (get_or l.firsts l.first no_first_byte).start) + 1;
}

abbrev pub decreases-loop-low : goal.decreases-loop-low
decreases-loop-low g l = l.high - l.low
