use Rattle.std.proofs.Common.{◌<◌, ◌≤◌, ℕ}
use Rattle.gimli_index.specs.Meaning.{start_number}
use Rattle.gimli_index.specs.Views.{index_of}
use Rattle.gimli_index.proofs.line_index.LineIndex.starts_ascend.Given as goal

abbrev pub invariant-loop-index : goal.invariant-loop-index
invariant-loop-index l =
    (i j : ℕ) → i < j → j < l.index → start_number (index_of l.self) i ≤ start_number (index_of l.self) j
