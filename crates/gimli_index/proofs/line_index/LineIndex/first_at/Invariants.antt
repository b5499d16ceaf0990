use Rattle.std.proofs.Common.{◌≤◌, ◌<◌, ◌-◌, ℕ}
use Rattle.gimli_index.specs.Order.{IsOrdered}
use Rattle.gimli_index.specs.Views.{index_of}
use Rattle.gimli_index.specs.inside.Order.{key_at}
use Rattle.gimli_index.proofs.line_index.LineIndex.first_at.Given as goal

abbrev pub invariant-loop-low : goal.invariant-loop-low
invariant-loop-low l = record {
  low : l.low ≤ l.high;
  high : l.high ≤ l.self.statements;
  before : IsOrdered (index_of l.self) → (k : ℕ) → k < l.low → key_at (index_of l.self) k < l.key;
  after : IsOrdered (index_of l.self) → (k : ℕ) → l.high ≤ k → k < l.self.statements
      → l.key ≤ key_at (index_of l.self) k;
}

abbrev pub decreases-loop-low : goal.decreases-loop-low
decreases-loop-low l = l.high - l.low
