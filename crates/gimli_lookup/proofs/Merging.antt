-- Two lists of steps, walked together by their addresses.
use Rattle.std.proofs.Common.{◌≡◌, ℕ, ◌+◌, ◌<◌, ◌≤◌, List, [], ◌∷◌, ◌++◌, length, take, Option, None, sym, ap, ◌∙◌, inl}
use Rattle.std.proofs.Common.{inr, arith}
use Rattle.std.specs.Prelude.{All, slice_index_or}
use Rattle.std.specs.Option.{option_or}
use Rattle.std.proofs.lemmas.Bool.{cases_lt}
use Rattle.std.proofs.lemmas.List.{length_push, get_or_default}
use Rattle.std.proofs.lemmas.List.Elements.{All-push, All-weaker}
use Rattle.std.proofs.lemmas.List.Sums.{fold_push, fold_more}
use Rattle.std.specs.List.Sorted.{IsNonDecreasingBy}
use Rattle.gimli_lookup.specs.declared.steps.Step.{Step}
use Rattle.gimli_lookup.specs.Steps.{step_at, last_step}
use Rattle.gimli_lookup.proofs.StepLists.{push_from, push_before, more_from, more_before, in_order_push}

-- so many steps of both lists are merged, of which the last has the address `from`
pub record Walked (left right : List Step) (next_left next_right : ℕ) (by_left by_right : Option ℕ) (from : ℕ)
    (merged : List Step) : Type 0 where
  pub left_within : next_left ≤ length left
  pub right_within : next_right ≤ length right
  pub size : length merged ≡ next_left + next_right
  pub value : (a : ℕ)
      → step_at a merged ≡ option_or (step_at a (take next_left left)) (step_at a (take next_right right))
  pub left_value : (a : ℕ) → from ≤ a → step_at a (take next_left left) ≡ by_left
  pub right_value : (a : ℕ) → from ≤ a → step_at a (take next_right right) ≡ by_right
  pub left_last : last_step (take next_left left) ≡ by_left
  pub right_last : last_step (take next_right right) ≡ by_right
  pub last : last_step merged ≡ option_or by_left by_right
  pub in_order : IsNonDecreasingBy (λ (s : Step). s.from) merged
  pub below : All (λ (s : Step). s.from ≤ from) merged
  pub left_ahead : (k : ℕ) (d : Step) → next_left ≤ k → k < length left → from ≤ (slice_index_or left k d).from
  pub right_ahead : (k : ℕ) (d : Step) → next_right ≤ k → k < length right → from ≤ (slice_index_or right k d).from

module _ (left right merged : List Step) (next_left next_right : ℕ) (by_left by_right : Option ℕ) (from : ℕ)
    (walked : Walked left right next_left next_right by_left by_right from merged) where
  lower : (s : Step) → from ≤ s.from → All (λ (t : Step). t.from ≤ s.from) merged
  lower s le =
      All-weaker (λ (t : Step). t.from ≤ from) (λ (t : Step). t.from ≤ s.from) (λ t below. omega arith) merged
      walked.below

  pub walk_left : (s : Step) → IsNonDecreasingBy (λ (s : Step). s.from) left
      → IsNonDecreasingBy (λ (s : Step). s.from) right → next_left < length left
      → slice_index_or left next_left s ≡ s
      → (next_right < length right → (d : Step) → s.from ≤ (slice_index_or right next_right d).from)
      → Walked left right (next_left + 1) next_right s.sequence by_right s.from
      (merged ++ record { from = s.from; sequence = option_or s.sequence by_right } ∷ [])
  walk_left s left_order right_order lt item first =
      let pushed : Step = record { from = s.from; sequence = option_or s.sequence by_right } in
      let address = ap (λ (t : Step). t.from) item in
      let ahead : from ≤ s.from = omega (arith, walked.left_ahead next_left s (omega arith) lt, address) in
      record {
        left_within = omega arith;
        right_within = walked.right_within;
        size = omega (arith, length_push merged pushed, walked.size);
        value = λ a. elim (cases_lt a s.from) [
          | inl above ↦
              push_before a merged pushed above ∙ walked.value a
              ∙ ap (λ (o : Option ℕ). option_or o (step_at a (take next_right right)))
              (sym (more_before a left next_left s lt item above))
          | inr le ↦
              push_from a merged pushed le
              ∙ ap (option_or s.sequence) (sym (walked.right_value a (omega arith)))
              ∙ ap (λ (o : Option ℕ). option_or o (step_at a (take next_right right)))
              (sym (more_from a left next_left s lt item le))
        ];
        left_value = λ a le. more_from a left next_left s lt item le;
        right_value = λ a le. walked.right_value a (omega arith);
        left_last =
            fold_more (λ (o : Option ℕ) (t : Step). t.sequence) None left next_left s lt
            ∙ ap (λ (t : Step). t.sequence) item;
        right_last = walked.right_last;
        last = fold_push (λ (o : Option ℕ) (t : Step). t.sequence) None merged pushed;
        in_order = in_order_push merged pushed walked.in_order (lower s ahead);
        below = All-push (λ (t : Step). t.from ≤ s.from) merged pushed (lower s ahead) (omega arith);
        left_ahead =
            λ k d le within.
            omega (
              arith,
              ap (λ (t : Step). t.from) (get_or_default left next_left d s lt ∙ item),
              left_order next_left k d (omega arith) within,
            );
        right_ahead = λ k d le within. omega (arith, first (omega arith) d, right_order next_right k d le within);
      }

  pub walk_right : (s : Step) → IsNonDecreasingBy (λ (s : Step). s.from) left
      → IsNonDecreasingBy (λ (s : Step). s.from) right → next_right < length right
      → slice_index_or right next_right s ≡ s
      → (next_left < length left → (d : Step) → s.from ≤ (slice_index_or left next_left d).from)
      → Walked left right next_left (next_right + 1) by_left s.sequence s.from
      (merged ++ record { from = s.from; sequence = option_or by_left s.sequence } ∷ [])
  walk_right s left_order right_order lt item first =
      let pushed : Step = record { from = s.from; sequence = option_or by_left s.sequence } in
      let address = ap (λ (t : Step). t.from) item in
      let ahead : from ≤ s.from = omega (arith, walked.right_ahead next_right s (omega arith) lt, address) in
      record {
        left_within = walked.left_within;
        right_within = omega arith;
        size = omega (arith, length_push merged pushed, walked.size);
        value = λ a. elim (cases_lt a s.from) [
          | inl above ↦
              push_before a merged pushed above ∙ walked.value a
              ∙ ap (option_or (step_at a (take next_left left))) (sym (more_before a right next_right s lt item above))
          | inr le ↦
              push_from a merged pushed le
              ∙ ap (λ (o : Option ℕ). option_or o s.sequence) (sym (walked.left_value a (omega arith)))
              ∙ ap (option_or (step_at a (take next_left left))) (sym (more_from a right next_right s lt item le))
        ];
        left_value = λ a le. walked.left_value a (omega arith);
        right_value = λ a le. more_from a right next_right s lt item le;
        left_last = walked.left_last;
        right_last =
            fold_more (λ (o : Option ℕ) (t : Step). t.sequence) None right next_right s lt
            ∙ ap (λ (t : Step). t.sequence) item;
        last = fold_push (λ (o : Option ℕ) (t : Step). t.sequence) None merged pushed;
        in_order = in_order_push merged pushed walked.in_order (lower s ahead);
        below = All-push (λ (t : Step). t.from ≤ s.from) merged pushed (lower s ahead) (omega arith);
        left_ahead = λ k d le within. omega (arith, first (omega arith) d, left_order next_left k d le within);
        right_ahead =
            λ k d le within.
            omega (
              arith,
              ap (λ (t : Step). t.from) (get_or_default right next_right d s lt ∙ item),
              right_order next_right k d (omega arith) within,
            );
      }
