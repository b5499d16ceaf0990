use Rattle.std.proofs.Common.{◌≤◌, ◌<◌, ◌+◌, ◌-◌, ℕ, length}
use Rattle.std.specs.Prelude.{slice_index_or}
use Rattle.gimli_lookup.specs.declared.steps.Step.{Step}
use Rattle.gimli_lookup.specs.Probes.{binary_digits}
use Rattle.gimli_lookup.proofs.step_table.steps_up_to.Given as goal

abbrev pub invariant-loop-low : goal.invariant-loop-low
invariant-loop-low l = record {
  low : l.low ≤ l.high;
  high : l.high ≤ length l.steps;
  before : (k : ℕ) (d : Step) → k < l.low → (slice_index_or l.steps k d).from ≤ l.a;
  after : (k : ℕ) (d : Step) → l.high ≤ k → k < length l.steps → l.a < (slice_index_or l.steps k d).from;
  count : l.probes + (l.high - l.low) ≤ l.initial.probes + length l.steps;
  grows : l.initial.probes ≤ l.probes;
  at_least : l.high - l.low < length l.steps → l.initial.probes < l.probes;
  at_most : l.probes + binary_digits (l.high - l.low) ≤ l.initial.probes + binary_digits (length l.steps);
}

abbrev pub decreases-loop-low : goal.decreases-loop-low
decreases-loop-low l = l.high - l.low
