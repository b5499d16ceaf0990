-- The steps of an index: the first sequence that covers an address, as a function of the address
-- that changes at few places.
use Rattle.std.specs.Prelude.{◌≡◌, ◌<◌, ◌≤◌, ◌+◌, ◌*◌, ◌^◌, ℕ, nat_le, if◌then◌else◌, List}
use Rattle.std.specs.Prelude.{length, fold, sum_by, Option, None}
use Rattle.std.specs.List.Sorted.{IsNonDecreasingBy}
use Rattle.gimli_line.specs.declared.run.row.LineRow.{LineRow}
use Rattle.gimli_lookup.specs.declared.steps.Step.{Step}
use Rattle.gimli_lookup.specs.declared.step_table.StepTable.{StepTable}
use Rattle.gimli_lookup.specs.Covering.{covering_index}

-- what the last of the steps says whose address is at most a
abbrev pub step_at : ℕ → List Step → Option ℕ
step_at a steps = fold (λ current s. if nat_le s.from a then s.sequence else current) None steps

-- what the last step says
abbrev pub last_step : List Step → Option ℕ
last_step steps = fold (λ current s. s.sequence) None steps

-- the steps say which of these sequences is the first that covers an address, the first of them
-- having the index `first`; after the last step none does, and a sequence has two steps at most
pub record AreStepsOf (first : ℕ) (sequences : List (List LineRow)) (steps : List Step)
    : Type 0 where
  -- no step has an address below that of one before it
  pub in_order : IsNonDecreasingBy (λ (s : Step). s.from) steps
  pub value : (a : ℕ) → step_at a steps ≡ covering_index a first sequences
  pub ended : last_step steps ≡ None
  pub few : length steps ≤ 2 * length sequences

-- the table of steps of these sequences. All probes that a search of them takes can be counted
pub record IsStepTableOf (table : StepTable) (sequences : List (List LineRow)) : Type 0 where
  pub steps : AreStepsOf 0 sequences table.steps.items
  pub countable : 2 ^ 8 + sum_by length sequences < 2 ^ 64
