-- The ranks of the statements of an index in the making.
use Rattle.std.specs.Prelude.{◌≡◌, ℕ, List, [], ◌∷◌, fold, min, Option, None, Some, All}
use Rattle.std.specs.List.Sorted.{IsNonDecreasingBy}
use Rattle.gimli_index.specs.Contents.{Contents, statement_in}
use Rattle.gimli_index.specs.Order.{rank_of}
use Rattle.gimli_index.specs.declared.ordering.Ranked.{Ranked}

-- a statement stands beside its rank
abbrev pub IsRanked : Contents → Ranked → Type 0
IsRanked c r = r.rank ≡ rank_of (statement_in c r.statement)

-- statements with their ranks don't go down
pub record AreRanked (c : Contents) (all : List Ranked) : Type 0 where
  pub each : All (IsRanked c) all
  pub rise : IsNonDecreasingBy (λ (r : Ranked). r.rank) all

-- the least of numbers, if there are any
abbrev pub least_of : List ℕ → Option ℕ
least_of [] = None
least_of (n ∷ ns) = Some (fold min n ns)

-- what stands past the end of some
abbrev pub nothing : Ranked
nothing = record { rank = 0; statement = record { source = 0; line = 0; address = 0 } }
