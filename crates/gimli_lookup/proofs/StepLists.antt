-- What lists of steps say at an address.
use Rattle.std.proofs.Common.{◌≡◌, ℕ, ◌+◌, ◌-◌, ◌<◌, ◌≤◌, leb, List, [], ◌∷◌, ◌++◌, length, take, drop, Option, None}
use Rattle.std.proofs.Common.{Some, refl, sym, ap, subst, ◌∙◌, inl, inr}
use Rattle.std.proofs.Common.{arith}
use Rattle.std.specs.Prelude.{All, fold, slice_index_or, nat_le, if◌then◌else◌}
use Rattle.std.specs.Option.{option_or}
use Rattle.std.proofs.lemmas.Bool.{le-leb, lt-leb, cond-true, cond-false, cases_lt}
use Rattle.std.proofs.lemmas.List.{append-nil, take-append-drop, length-append, length-drop, length_push, get_or-drop}
use Rattle.std.proofs.lemmas.List.{get_or_append_left, get_or-append_right}
use Rattle.std.proofs.lemmas.List.{get_or_push}
use Rattle.std.proofs.lemmas.List.Elements.{All-tail}
use Rattle.std.proofs.lemmas.List.Sums.{fold_push, fold-append, fold_more}
use Rattle.std.specs.List.Sorted.{IsNonDecreasingBy}
use Rattle.gimli_lookup.specs.declared.steps.Step.{Step}
use Rattle.gimli_lookup.specs.Steps.{step_at, last_step}
use Rattle.gimli_lookup.specs.inside.Steps.{AreJoined}

-- what a step says at an address, where so far `current` was said
abbrev at_step : ℕ → Option ℕ → Step → Option ℕ
at_step a current s = if nat_le s.from a then s.sequence else current

-- what a step says at an address after all of them
abbrev step_after : Option ℕ → Step → Option ℕ
step_after current s = s.sequence

-- ---- before all steps, and after them

pub before_all : (a : ℕ) (current : Option ℕ) (steps : List Step) → All (λ (s : Step). a < s.from) steps
    → fold (at_step a) current steps ≡ current
before_all a current [] above = refl
before_all a current (s ∷ steps) above =
    ap (λ (now : Option ℕ). fold (at_step a) now steps)
    (cond-false (leb s.from a) s.sequence current (lt-leb s.from a (above 0 s (omega arith))))
    ∙ before_all a current steps (All-tail (λ (s : Step). a < s.from) s steps above)

pub after_all : (a : ℕ) (current : Option ℕ) (steps : List Step) → All (λ (s : Step). s.from ≤ a) steps
    → fold (at_step a) current steps ≡ fold step_after current steps
after_all a current [] below = refl
after_all a current (s ∷ steps) below =
    ap (λ (now : Option ℕ). fold (at_step a) now steps)
    (cond-true (leb s.from a) s.sequence current (le-leb s.from a (below 0 s (omega arith))))
    ∙ after_all a s.sequence steps (All-tail (λ (s : Step). s.from ≤ a) s steps below)

-- ---- one step more

pub push_from : (a : ℕ) (steps : List Step) (s : Step) → s.from ≤ a → step_at a (steps ++ s ∷ []) ≡ s.sequence
push_from a steps s le =
    fold_push (at_step a) None steps s ∙ cond-true (leb s.from a) s.sequence (step_at a steps) (le-leb s.from a le)

pub push_before : (a : ℕ) (steps : List Step) (s : Step) → a < s.from → step_at a (steps ++ s ∷ []) ≡ step_at a steps
push_before a steps s lt =
    fold_push (at_step a) None steps s ∙ cond-false (leb s.from a) s.sequence (step_at a steps) (lt-leb s.from a lt)

pub more_from : (a : ℕ) (steps : List Step) (i : ℕ) (s : Step) → i < length steps → slice_index_or steps i s ≡ s
    → s.from ≤ a
    → step_at a (take (i + 1) steps) ≡ s.sequence
more_from a steps i s lt item le =
    fold_more (at_step a) None steps i s lt
    ∙ ap (at_step a (step_at a (take i steps))) item
    ∙ cond-true (leb s.from a) s.sequence (step_at a (take i steps)) (le-leb s.from a le)

pub more_before : (a : ℕ) (steps : List Step) (i : ℕ) (s : Step) → i < length steps → slice_index_or steps i s ≡ s
    → a < s.from
    → step_at a (take (i + 1) steps) ≡ step_at a (take i steps)
more_before a steps i s lt item above =
    fold_more (at_step a) None steps i s lt
    ∙ ap (at_step a (step_at a (take i steps))) item
    ∙ cond-false (leb s.from a) s.sequence (step_at a (take i steps)) (lt-leb s.from a above)

-- ---- the last step that counts

pub at_index : (a : ℕ) (steps : List Step) (n : ℕ) → n ≤ length steps
    → ((k : ℕ) (d : Step) → n ≤ k → k < length steps → a < (slice_index_or steps k d).from)
    → step_at a steps ≡ step_at a (take n steps)
at_index a steps n within after =
    ap (step_at a) (sym (take-append-drop n steps))
    ∙ fold-append (at_step a) None (take n steps) (drop n steps)
    ∙ before_all a (step_at a (take n steps)) (drop n steps)
    (λ (k : ℕ) (d : Step) (lt : k < length (drop n steps)).
    subst (λ (s : Step). a < s.from) (sym (get_or-drop n steps k d))
    (after (n + k) d (omega arith) (omega (arith, lt, length-drop n steps))))

pub none_before : (a : ℕ) (steps : List Step)
    → ((k : ℕ) (d : Step) → 0 ≤ k → k < length steps → a < (slice_index_or steps k d).from) → step_at a steps ≡ None
none_before a steps after = at_index a steps 0 (omega arith) after

pub last_before : (a : ℕ) (steps : List Step) (n : ℕ) (s : Step) → n < length steps → slice_index_or steps n s ≡ s
    → s.from ≤ a
    → ((k : ℕ) (d : Step) → n + 1 ≤ k → k < length steps → a < (slice_index_or steps k d).from)
    → step_at a steps ≡ s.sequence
last_before a steps n s lt item le after =
    at_index a steps (n + 1) (omega arith) after ∙ more_from a steps n s lt item le

-- ---- order

pub in_order_push : (steps : List Step) (s : Step) → IsNonDecreasingBy (λ (s : Step). s.from) steps
    → All (λ (t : Step). t.from ≤ s.from) steps
    → IsNonDecreasingBy (λ (s : Step). s.from) (steps ++ s ∷ [])
in_order_push steps s order below i j d le lt = elim (cases_lt j (length steps)) [
  | inl inside ↦
      let first = get_or_append_left steps (s ∷ []) d i (omega arith) in
      let second = get_or_append_left steps (s ∷ []) d j inside in
      omega (arith, ap (λ (t : Step). t.from) first, ap (λ (t : Step). t.from) second, order i j d le inside)
  | inr at_end ↦
      let same : length steps ≡ j = omega (arith, length_push steps s) in
      let second = get_or_push steps s d j same in
      elim (cases_lt i (length steps)) [
        | inl inside ↦
            let first = get_or_append_left steps (s ∷ []) d i inside in
            omega (arith, ap (λ (t : Step). t.from) first, ap (λ (t : Step). t.from) second, below i d inside)
        | inr there ↦
            let also : length steps ≡ i = omega arith in
            let first = get_or_push steps s d i also in
            omega (arith, ap (λ (t : Step). t.from) first, ap (λ (t : Step). t.from) second)
      ]
]

-- no step of the right list is below one of the left
abbrev pub AreApart : List Step → List Step → Type 0
AreApart left right =
    (i j : ℕ) (d : Step) → i < length left → j < length right
    → (slice_index_or left i d).from ≤ (slice_index_or right j d).from

in_order_append : (left right : List Step) → IsNonDecreasingBy (λ (s : Step). s.from) left
    → IsNonDecreasingBy (λ (s : Step). s.from) right → AreApart left right
    → IsNonDecreasingBy (λ (s : Step). s.from) (left ++ right)
in_order_append left right left_order right_order apart i j d le lt = elim (cases_lt j (length left)) [
  | inl inside ↦ omega (
    arith,
    ap (λ (t : Step). t.from) (get_or_append_left left right d i (omega arith)),
    ap (λ (t : Step). t.from) (get_or_append_left left right d j inside),
    left_order i j d le inside,
  )
  | inr past ↦
      let second = get_or-append_right left right (length left) j d refl past in
      let within : j - length left < length right = omega (arith, length-append left right) in
      elim (cases_lt i (length left)) [
        | inl before ↦ omega (
          arith,
          ap (λ (t : Step). t.from) (get_or_append_left left right d i before),
          ap (λ (t : Step). t.from) second,
          apart i (j - length left) d before within,
        )
        | inr also ↦ omega (
          arith,
          ap (λ (t : Step). t.from) (get_or-append_right left right (length left) i d refl also),
          ap (λ (t : Step). t.from) second,
          right_order (i - length left) (j - length left) d (omega arith) within,
        )
      ]
]

-- ---- one list after the other

or_none : (o : Option ℕ) → o ≡ option_or o None
or_none None = refl
or_none (Some k) = refl

value_append : (a : ℕ) (left right : List Step) → IsNonDecreasingBy (λ (s : Step). s.from) right → AreApart left right
    → last_step left ≡ None
    → step_at a (left ++ right) ≡ option_or (step_at a left) (step_at a right)
value_append a left [] order apart ended = ap (step_at a) (append-nil left) ∙ or_none (step_at a left)
value_append a left (s ∷ steps) order apart ended =
    fold-append (at_step a) None left (s ∷ steps) ∙ elim (cases_lt a s.from) [
      | inl above ↦
          let all : All (λ (t : Step). a < t.from) (s ∷ steps) =
          λ k d lt. omega (arith, order 0 k d (omega arith) lt) in
          before_all a (step_at a left) (s ∷ steps) all
          ∙ or_none (step_at a left)
          ∙ ap (option_or (step_at a left)) (sym (before_all a None (s ∷ steps) all))
      | inr le ↦
          let none : step_at a left ≡ None =
          after_all a None left (λ (k : ℕ) (d : Step) (lt : k < length left).
          omega (arith, apart k 0 d lt (omega arith)))
          ∙ ended in
          ap (λ (now : Option ℕ). fold (at_step a) now (s ∷ steps)) none
          ∙ sym (ap (λ (o : Option ℕ). option_or o (step_at a (s ∷ steps))) none)
    ]

pub are_appended : (left right : List Step) → IsNonDecreasingBy (λ (s : Step). s.from) left
    → IsNonDecreasingBy (λ (s : Step). s.from) right → AreApart left right
    → last_step left ≡ None → last_step right ≡ None
    → AreJoined left right (left ++ right)
are_appended left right left_order right_order apart left_end right_end = record {
  in_order = in_order_append left right left_order right_order apart;
  value = λ a. value_append a left right right_order apart left_end;
  ended =
      fold-append step_after None left right ∙ ap (λ (now : Option ℕ). fold step_after now right) left_end ∙ right_end;
  size = length-append left right;
}
