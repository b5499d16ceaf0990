-- The steps of sequences of which each begins where those before it have ended.
use Rattle.std.proofs.Common.{◌≡◌, ℕ, ◌+◌, ◌<◌, ◌≤◌, List, [], ◌∷◌, ◌++◌, length, take, sym, ap, subst, ◌∙◌, arith}
use Rattle.std.specs.Prelude.{All, slice_index_or}
use Rattle.std.proofs.lemmas.List.{append-nil, append_assoc, take_more, length-take-le}
use Rattle.std.proofs.lemmas.List.Elements.{All-push, All-weaker}
use Rattle.gimli_line.specs.declared.run.row.LineRow.{LineRow}
use Rattle.gimli_lookup.specs.declared.steps.Step.{Step}
use Rattle.gimli_lookup.specs.Steps.{AreStepsOf}
use Rattle.gimli_lookup.proofs.StepLists.{AreApart, are_appended}
use Rattle.gimli_lookup.proofs.CoveringPairs.{joined_steps}

-- the steps are those of the sequences, and none has an address above `end`
pub record AreInTurn (first : ℕ) (sequences : List (List LineRow)) (steps : List Step) (end : ℕ) : Type 0 where
  pub of : AreStepsOf first sequences steps
  pub below : All (λ (s : Step). s.from ≤ end) steps

module _ (first i : ℕ) (sequences : List (List LineRow)) (rows : List LineRow) (steps : List Step) (end : ℕ)
    (lt : i < length sequences)
    (there : rows ≡ slice_index_or sequences i rows) (so_far : AreInTurn first (take i sequences) steps end) where
  more : take i sequences ++ rows ∷ [] ≡ take (i + 1) sequences
  more = sym (take_more sequences i rows lt ∙ ap (λ (r : List LineRow). take i sequences ++ r ∷ []) (sym there))

  appended : (right : List Step) → AreStepsOf (first + i) (rows ∷ []) right → AreApart steps right
      → AreStepsOf first (take (i + 1) sequences) (steps ++ right)
  appended right of_one apart =
      let size : i ≡ length (take i sequences) = sym (length-take-le i sequences (omega arith)) in
      let of_right : AreStepsOf (first + length (take i sequences)) (rows ∷ []) right =
      subst (λ (n : ℕ). AreStepsOf (first + n) (rows ∷ []) right) size of_one in
      subst (λ (xs : List (List LineRow)). AreStepsOf first xs (steps ++ right)) more
      (joined_steps first (take i sequences) (rows ∷ []) steps right (steps ++ right) so_far.of of_right
      (are_appended steps right so_far.of.in_order of_one.in_order apart so_far.of.ended of_one.ended))

  pub no_step_more : AreStepsOf (first + i) (rows ∷ []) [] → AreInTurn first (take (i + 1) sequences) steps end
  no_step_more of_one = record {
    of =
        subst (AreStepsOf first (take (i + 1) sequences)) (append-nil steps) (appended [] of_one (λ j k d left right.
        absurd (omega arith)));
    below = so_far.below;
  }

  pub two_steps_more : (covered uncovered : Step) → AreStepsOf (first + i) (rows ∷ []) (covered ∷ uncovered ∷ [])
      → end ≤ covered.from
      → AreInTurn first (take (i + 1) sequences) (steps ++ covered ∷ [] ++ uncovered ∷ []) uncovered.from
  two_steps_more covered uncovered of_one fits =
      let rises : covered.from ≤ uncovered.from = of_one.in_order 0 1 covered (omega arith) (omega arith) in
      let apart : AreApart steps (covered ∷ uncovered ∷ []) =
      λ j k d left right. omega (arith, so_far.below j d left, of_one.in_order 0 k d (omega arith) right, fits) in
      record {
        of =
            subst (AreStepsOf first (take (i + 1) sequences)) (sym (append_assoc steps (covered ∷ []) (uncovered ∷ [])))
            (appended (covered ∷ uncovered ∷ []) of_one apart);
        below = All-push (λ (s : Step). s.from ≤ uncovered.from) (steps ++ covered ∷ []) uncovered
            (All-push (λ (s : Step). s.from ≤ uncovered.from) steps covered
            (All-weaker (λ (s : Step). s.from ≤ end) (λ (s : Step). s.from ≤ uncovered.from)
            (λ s le. omega (arith, le, fits, rises)) steps so_far.below)
            rises)
            (omega arith);
      }
