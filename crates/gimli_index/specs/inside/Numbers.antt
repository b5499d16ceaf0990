-- The numbers of an index. `LineIndex` has a ghost field, so what its file names stands apart from
-- what names `LineIndex`.
use Rattle.std.specs.Prelude.{ℕ, ◌<◌, ◌≤◌}
use Rattle.gimli_index.specs.Parts.{Index}
use Rattle.gimli_index.specs.Meaning.{start_number}

-- no start is below one before it
abbrev pub NumbersAscend : Index → Type 0
NumbersAscend index =
    (i j : ℕ) → i < j → j < index.starts → start_number index i ≤ start_number index j

-- how many starts are at most a number is none below `low` and none above `high`, where they ascend
pub record CountIsBetween (index : Index) (number low high : ℕ) : Type 0 where
  pub order : low ≤ high
  pub within : high ≤ index.starts
  pub before : NumbersAscend index → (k : ℕ) → k < low → start_number index k ≤ number
  pub after : NumbersAscend index → (k : ℕ) → high ≤ k → k < index.starts
      → number < start_number index k
