-- Collecting the changes of places.
use Rattle.std.proofs.Common.{◌≡◌, ◌⊎◌, ℕ, Bool, true, false, List, Option, Some, None, refl, sym, ap, ◌∙◌, inl}
use Rattle.std.proofs.Common.{inr}
use Rattle.std.specs.Prelude.{is_some, ◌∷◌}
use Rattle.std.specs.List.{list_any}
use Rattle.std.specs.BTreeMap.{BTreeMap, get, is_at}
use Rattle.std.specs.Cmp.{unsigned_tied}
use Rattle.std.specs.Ordering.{is_eq, nat_cmp, eq_by_cmp, ordering_then}
use Rattle.std.specs.declared.cmp.Ordering.{Ordering}
use Rattle.std.specs.declared.cmp.Ordering.TheVariants.{Less, Equal, Greater}
use Rattle.std.proofs.lemmas.Bool.{eqb-true, eq-eqb}
use Rattle.lines_reports.specs.Coverage.{bytes_at, change_at, place_order}
use Rattle.lines_reports.specs.declared.coverage.Change.{Change}
use Rattle.lines_reports.specs.declared.coverage.LinePlace.{LinePlace}
use Rattle.lines_reports.specs.inside.Changes.{IsPart, Keeps, with_change}

-- ---- one place

then_equal : (a b : Ordering) → is_eq (ordering_then a b) ≡ true → (is_eq a ≡ true) × (is_eq b ≡ true)
then_equal Less b is = absurd cc
then_equal Equal b is = (refl, is)
then_equal Greater b is = absurd cc

-- places that compare as equal are one
pub one_place : (p q : LinePlace) → is_at (place_order p) q ≡ true → p ≡ q
one_place p q is =
    let parts = then_equal (nat_cmp p.path q.path) (nat_cmp p.line q.line) is in
    let path : p.path ≡ q.path = eqb-true p.path q.path (sym (unsigned_tied p.path q.path) ∙ parts.0) in
    let line : p.line ≡ q.line = eqb-true p.line q.line (sym (unsigned_tied p.line q.line) ∙ parts.1) in
    ap (λ (n : ℕ). let r : LinePlace = record { path = n; line = p.line } in r) path
    ∙ ap (λ (n : ℕ). let r : LinePlace = record { path = q.path; line = n } in r) line

then_same : (a b : Ordering) → is_eq a ≡ true → is_eq b ≡ true → is_eq (ordering_then a b) ≡ true
then_same Less b is same = absurd cc
then_same Equal b is same = same
then_same Greater b is same = absurd cc

place_self : (p : LinePlace) → is_at (place_order p) p ≡ true
place_self p =
    then_same (nat_cmp p.path p.path) (nat_cmp p.line p.line) (unsigned_tied p.path p.path ∙ eq-eqb p.path p.path refl)
    (unsigned_tied p.line p.line ∙ eq-eqb p.line p.line refl)

-- ---- what was collected

module _ (old new : List (LinePlace × ℕ)) where
  abbrev change : LinePlace → Option Change
  change = change_at old new

  -- the change of a place was kept, where it has one
  abbrev pub Kept : LinePlace → BTreeMap LinePlace Change → BTreeMap LinePlace Change → Type 0
  Kept place before after =
      (other : LinePlace)
      → get place_order after other
      ≡ with_change (change place) (is_at (place_order place) other) (get place_order before other)

  -- what stands for another place after that
  stands : (place other : LinePlace) (test : Bool) (before after : Option Change)
      → is_at (place_order place) other ≡ test
      → after ≡ with_change (change place) test before
      → (after ≡ before) ⊎ ((place ≡ other) × (after ≡ change other))
  stands place other false before after is same = at_change (change place) same
    where
      at_change : (c : Option Change) → after ≡ with_change c false before
          → (after ≡ before) ⊎ ((place ≡ other) × (after ≡ change other))
      at_change None same = inl same
      at_change (Some c) same = inl same
  stands place other true before after is same = at_change (change place) refl same
    where
      at_change : (c : Option Change) → change place ≡ c → after ≡ with_change c true before
          → (after ≡ before) ⊎ ((place ≡ other) × (after ≡ change other))
      at_change None own same = inl same
      at_change (Some c) own same =
          let one = one_place place other is in
          inr (one, same ∙ sym own ∙ ap change one)

  pub part_on : (place : LinePlace) (before after : BTreeMap LinePlace Change) → Kept place before after
      → IsPart old new before
      → IsPart old new after
  part_on place before after kept part other =
      elim (stands place other (is_at (place_order place) other) (get place_order before other)
      (get place_order after other) refl (kept other)) [
        | inl same ↦ elim (part other) [ inl none ↦ inl (same ∙ none) | inr whole ↦ inr (same ∙ whole) ]
        | inr one ↦ inr one.1
      ]

  pub keeps_on : (place : LinePlace) (before after : BTreeMap LinePlace Change) → Kept place before after
      → Keeps old new before after
  keeps_on place before after kept other whole =
      elim (stands place other (is_at (place_order place) other) (get place_order before other)
      (get place_order after other) refl (kept other)) [
        | inl same ↦ same ∙ whole
        | inr one ↦ one.1
      ]

  -- a place whose change was kept has it
  pub has_own : (place other : LinePlace) (before after : BTreeMap LinePlace Change) → Kept place before after
      → IsPart old new before
      → is_at (place_order place) other ≡ true → get place_order after other ≡ change other
  has_own place other before after kept part is =
      let one = one_place place other is in
      at_change (change place) refl
      (kept other ∙ ap (λ (t : Bool). with_change (change place) t (get place_order before other)) is)
    where
      at_change : (c : Option Change) → change place ≡ c
          → get place_order after other ≡ with_change c true (get place_order before other)
          → get place_order after other ≡ change other
      at_change (Some c) own same = same ∙ sym own ∙ ap change (one_place place other is)
      at_change None own same = elim (part other) [
        | inl none ↦ same ∙ none ∙ sym own ∙ ap change (one_place place other is)
        | inr whole ↦ same ∙ whole
      ]

  -- each place of a program has its change but for those that are left
  abbrev pub IsDone : List (LinePlace × ℕ) → List LinePlace → BTreeMap LinePlace Change → Type 0
  IsDone source left changes = (other : LinePlace) → is_some (bytes_at source other) ≡ true
      → list_any (eq_by_cmp place_order other) left ≡ false → get place_order changes other ≡ change other

  pub done_on : (source : List (LinePlace × ℕ)) (place : LinePlace) (left : List LinePlace)
      (before after : BTreeMap LinePlace Change)
      → Kept place before after
      → IsPart old new before → IsDone source (place ∷ left) before → IsDone source left after
  done_on source place left before after kept part done other there gone =
      at_test (is_at (place_order other) place) refl
    where
      at_test : (test : Bool) → is_at (place_order other) place ≡ test → get place_order after other ≡ change other
      at_test true is =
          has_own place other before after kept part
          (ap (λ (p : LinePlace). is_at (place_order p) other) (sym (one_place other place is)) ∙ place_self other)
      at_test false is = keeps_on place before after kept other (done other there (rw is gone))
