-- What a table of steps says of its sequences.
use Rattle.std.proofs.Common.{◌≡◌, ℕ, ◌-◌, ◌*◌, ◌<◌, ◌≤◌, true, false, List, [], ◌∷◌, length, Option, None, Some}
use Rattle.std.proofs.Common.{MatchOption, sym, ap, subst, ◌∙◌, arith}
use Rattle.std.specs.Prelude.{All, Any, sum_by, slice_index_or}
use Rattle.std.proofs.lemmas.Bool.{true≢false}
use Rattle.std.proofs.lemmas.List.Sums.{get_or-le-sum_by}
use Rattle.std.proofs.lemmas.Option.{slice_get-get_or}
use Rattle.gimli_line.specs.declared.run.row.LineRow.{LineRow}
use Rattle.gimli_lookup.specs.declared.step_table.StepTable.{StepTable}
use Rattle.gimli_lookup.specs.declared.steps.Step.{Step}
use Rattle.gimli_lookup.specs.inside.FirstPair.{HasNoPair, IsFirstPairOf}
use Rattle.gimli_lookup.specs.inside.FirstPair.{IsFirstPairIn}
use Rattle.gimli_lookup.specs.Covering.{covers, covering_index, covering_probes, CoversSome}
use Rattle.gimli_lookup.specs.Probes.{binary_digits, NoneGoesDown}
use Rattle.gimli_lookup.specs.Steps.{step_at, IsStepTableOf}
use Rattle.gimli_lookup.proofs.CoveringPairs.{IsFirstCovering, cases_covering, uncovered_has_none, NoneCovers}
use Rattle.gimli_lookup.proofs.CoveringPairs.{all_taken}
use Rattle.gimli_lookup.proofs.Digits.{digits_grow}

-- a sequence that covers some address gives steps
pub covered_steps : (sequences : List (List LineRow)) (steps : List Step)
    → ((a : ℕ) → step_at a steps ≡ covering_index a 0 sequences)
    → Any CoversSome sequences → 0 < length steps
covered_steps sequences (s ∷ steps) value some = omega arith
covered_steps sequences [] value some =
    let covering = some.4 in
    let none : All (λ (rows : List LineRow). covers covering.0 rows ≡ false) sequences =
    subst (λ (o : Option ℕ).
    MatchOption o (All (λ (rows : List LineRow). covers covering.0 rows ≡ false) sequences)
    (IsFirstCovering covering.0 0 sequences))
    (sym (value covering.0)) (cases_covering covering.0 0 sequences) in
    absurd (true≢false (sym covering.1 ∙ ap (covers covering.0) (sym some.3) ∙ none some.0 some.1 some.2))

-- the rows of a sequence are no more than those of all
pub rows_fit : (sequences : List (List LineRow)) (index : ℕ) (rows : List LineRow) → index < length sequences
    → rows ≡ slice_index_or sequences index rows → length rows ≤ sum_by length sequences
rows_fit sequences index rows within item =
    omega
    (arith, get_or-le-sum_by length sequences index rows within, ap (λ (r : List LineRow). length r) item)

module _ (table : StepTable) (sequences : List (List LineRow)) (is : IsStepTableOf table sequences) (a : ℕ) where
  said : (o : Option ℕ) → o ≡ step_at a table.steps.items
      → MatchOption o (All (λ (rows : List LineRow). covers a rows ≡ false) sequences) (IsFirstCovering a 0 sequences)
  said o e =
      subst (λ (p : Option ℕ).
      MatchOption p (All (λ (rows : List LineRow). covers a rows ≡ false) sequences) (IsFirstCovering a 0 sequences))
      (sym (e ∙ is.steps.value a)) (cases_covering a 0 sequences)

  pub none_covers : None ≡ step_at a table.steps.items → NoneCovers a (length sequences) sequences
  none_covers e = λ k d lt. said None e k d lt

  -- where no addresses go down, no sequence has a pair
  pub none_has_pair : NoneGoesDown sequences → None ≡ step_at a table.steps.items → All (HasNoPair a) sequences
  none_has_pair order e k d lt =
      uncovered_has_none a (slice_index_or sequences k d) (order k d lt) (none_covers e k d lt)

  module _ (sequence : ℕ) (e : Some sequence ≡ step_at a table.steps.items) where
    first : IsFirstCovering a 0 sequences sequence
    first = said (Some sequence) e

    same : sequence - 0 ≡ sequence
    same = omega arith

    pub covering_within : sequence < length sequences
    covering_within = omega (arith, first.within)

    pub covering_is : (d : List LineRow) → covers a (slice_index_or sequences sequence d) ≡ true
    covering_is d = ap (λ (k : ℕ). covers a (slice_index_or sequences k d)) (sym same) ∙ first.is d

    pub none_covers_before : NoneCovers a sequence sequences
    none_covers_before k d lt = first.none_earlier k d (omega (arith, same))

    pub probes_of_covering : (d : List LineRow)
        → covering_probes a sequences ≡ binary_digits (length (slice_index_or sequences sequence d))
    probes_of_covering d = first.probes d ∙ ap (λ (k : ℕ). binary_digits (length (slice_index_or sequences k d))) same

    -- and its first pair is the first of all
    pub first_of_all : NoneGoesDown sequences → (rows : List LineRow) (x y : LineRow)
        → rows ≡ slice_index_or sequences sequence rows → IsFirstPairOf a rows x y
        → IsFirstPairIn a sequences sequence x y
    first_of_all order rows x y item pair = record {
      rows = rows;
      there =
          slice_get-get_or sequences sequence rows covering_within ∙ ap (λ (r : List LineRow). Some r) (sym item);
      none_earlier =
          all_taken (HasNoPair a) sequences sequence (omega (arith, covering_within))
          (λ k d lt. uncovered_has_none a (slice_index_or sequences k d)
          (order k d (omega (arith, covering_within))) (none_covers_before k d lt));
      is_first = pair;
    }

  pub step_probes : binary_digits (length table.steps.items) ≤ binary_digits (2 * length sequences)
  step_probes = digits_grow (length table.steps.items) (2 * length sequences) is.steps.few
