use Rattle.std.proofs.Common.{◌≡◌, ◌≤◌, ◌<◌, ℕ, false}
use Rattle.gimli_index.specs.Lines.{is_of}
use Rattle.gimli_index.specs.Meaning.{statement_at}
use Rattle.gimli_index.specs.Order.{IsOrdered}
use Rattle.gimli_index.specs.Views.{index_of}
use Rattle.gimli_index.proofs.line_index.LineIndex.first_line.Given as goal

abbrev pub invariant-loop-number : goal.invariant-loop-number
invariant-loop-number l = IsOrdered (index_of l.self) → (k m : ℕ) → k < l.number → l.asked ≤ m
    → is_of l.path m (statement_at (index_of l.self) k) ≡ false
