use Rattle.std.proofs.Common.{◌≤◌, ◌<◌, ◌+◌, ◌-◌, ℕ, length}
use Rattle.std.specs.Prelude.{slice_index_or}
use Rattle.gimli_line.specs.declared.run.row.LineRow.{LineRow}
use Rattle.gimli_lookup.specs.Probes.{binary_digits}
use Rattle.gimli_lookup.proofs.search.first_above.Given as goal

abbrev pub invariant-loop-low : goal.invariant-loop-low
invariant-loop-low l = record {
  low : l.low ≤ l.high;
  high : l.high ≤ length l.rows;
  before : (k : ℕ) (d : LineRow) → k < l.low → (slice_index_or l.rows k d).address ≤ l.a;
  after : (k : ℕ) (d : LineRow) → l.high ≤ k → k < length l.rows → l.a < (slice_index_or l.rows k d).address;
  count : l.probes + (l.high - l.low) ≤ l.initial.probes + length l.rows;
  grows : l.initial.probes ≤ l.probes;
  at_least : l.high - l.low < length l.rows → l.initial.probes < l.probes;
  at_most : l.probes + binary_digits (l.high - l.low) ≤ l.initial.probes + binary_digits (length l.rows);
}

abbrev pub decreases-loop-low : goal.decreases-loop-low
decreases-loop-low l = l.high - l.low
