-- What is found by the steps of an index, up to which address, and what is kept next to the steps.
use Rattle.std.specs.Prelude.{◌⊎◌, ◌≤◌, ◌<◌, ℕ, List, Option, All, MatchOption, ◌≡◌, false, take}
use Rattle.std.specs.Prelude.{slice_get, Some, ◌+◌, length, None}
use Rattle.gimli_line.specs.declared.run.row.LineRow.{LineRow}
use Rattle.gimli_lookup.specs.declared.step_table.Found.{Found}
use Rattle.gimli_lookup.specs.inside.FirstPair.{HasNoPair, IsFirstPairIn, IsFirstPairOf}
use Rattle.gimli_lookup.specs.Ranges.{IsBefore}
use Rattle.gimli_lookup.specs.Probes.{never_go_down}
use Rattle.std.specs.Option.{option_or}
use Rattle.std.specs.List.Sorted.{IsNonDecreasingBy}
use Rattle.gimli_lookup.specs.declared.steps.Step.{Step}
use Rattle.gimli_lookup.specs.Steps.{step_at, last_step}

-- an address isn't above `a`, or not below the end
abbrev pub IsClear : ℕ → Option ℕ → ℕ → Type 0
IsClear a end at = (at ≤ a) ⊎ ((b : ℕ) → IsBefore b end → b < at)

-- this is found at an address: the first rows round it and the index of their sequence, or None
-- where no rows are round it
abbrev pub IsFoundIn : ℕ → List (List LineRow) → Option Found → Type 0
IsFoundIn a sequences found =
    MatchOption found (All (HasNoPair a) sequences) (λ f.
    IsFirstPairIn a sequences f.sequence f.row f.next)

-- none of these sequences has both addresses that go down and a pair round the address
abbrev pub HaveNoUnorderedPair : ℕ → List (List LineRow) → Type 0
HaveNoUnorderedPair a sequences =
    All (λ rows. never_go_down rows ≡ false → HasNoPair a rows) sequences

-- x and y are the first pair of the first sequence that has one and whose addresses go down, and it
-- stands before `end`
pub record IsFirstUnorderedPair (a end : ℕ) (sequences : List (List LineRow)) (sequence : ℕ)
    (x y : LineRow) : Type 0 where
  pub rows : List LineRow
  pub before_end : sequence < end
  pub there : slice_get sequences sequence ≡ Some rows
  pub none_earlier : HaveNoUnorderedPair a (take sequence sequences)
  pub is_first : IsFirstPairOf a rows x y

-- two lists of steps as one: what the left one says, or else what the right one says
pub record AreJoined (left right steps : List Step) : Type 0 where
  pub in_order : IsNonDecreasingBy (λ (s : Step). s.from) steps
  pub value : (a : ℕ) → step_at a steps ≡ option_or (step_at a left) (step_at a right)
  pub ended : last_step steps ≡ None
  pub size : length steps ≡ length left + length right
