-- Pairs of rows that cover an address.
use Rattle.std.proofs.Common.{◌≡◌, ◌⊎◌, ℕ, zero, suc, ◌+◌, ◌-◌, ◌<◌, ◌≤◌, true, not, List, [], ◌∷◌, ◌++◌, length, take}
use Rattle.std.proofs.Common.{drop, Some, sym, ap, subst, ◌∙◌, inl}
use Rattle.std.proofs.Common.{inr, arith}
use Rattle.std.specs.Prelude.{slice_get, slice_index_or, nat_lt, ◌&&◌, All}
use Rattle.std.proofs.lemmas.Bool.{and_parts, not-true, ltb-false, cases_order}
use Rattle.std.proofs.lemmas.List.{take-append-drop, drop_more}
use Rattle.std.proofs.lemmas.Option.{get_or_from_slice_get, slice_get_within}
use Rattle.gimli_line.specs.declared.run.row.LineRow.{LineRow}
use Rattle.gimli_lookup.specs.inside.FirstPair.{IsPairAt, HasNoPair, IsFirstPairOf, IsFirstPair}
use Rattle.gimli_lookup.specs.inside.FirstPair.{IsFirstPairIn}
use Rattle.gimli_lookup.specs.Probes.{never_go_below, never_go_down}

-- ---- addresses that never go down

not_below : (lowest : ℕ) (rows : List LineRow) (j : ℕ) (d : LineRow) → never_go_below lowest rows ≡ true
    → j < length rows
    → lowest ≤ (slice_index_or rows j d).address
not_below lowest [] j d order lt = absurd (omega arith)
not_below lowest (r ∷ rows) zero d order lt =
    ltb-false r.address lowest (not-true (nat_lt r.address lowest)
    (and_parts (not (nat_lt r.address lowest)) (never_go_below r.address rows) order).0)
not_below lowest (r ∷ rows) (suc j) d order lt =
    let p = and_parts (not (nat_lt r.address lowest)) (never_go_below r.address rows) order in
    let first : lowest ≤ r.address = ltb-false r.address lowest (not-true (nat_lt r.address lowest) p.0) in
    omega (arith, first, not_below r.address rows j d p.1 (omega arith))

in_order : (lowest : ℕ) (rows : List LineRow) (i j : ℕ) (d : LineRow) → never_go_below lowest rows ≡ true → i ≤ j
    → j < length rows
    → (slice_index_or rows i d).address ≤ (slice_index_or rows j d).address
in_order lowest [] i j d order le lt = absurd (omega arith)
in_order lowest (r ∷ rows) zero zero d order le lt = omega arith
in_order lowest (r ∷ rows) zero (suc j) d order le lt =
    not_below r.address rows j d (and_parts (not (nat_lt r.address lowest)) (never_go_below r.address rows) order).1
    (omega arith)
in_order lowest (r ∷ rows) (suc i) zero d order le lt = absurd (omega arith)
in_order lowest (r ∷ rows) (suc i) (suc j) d order le lt =
    in_order r.address rows i j d (and_parts (not (nat_lt r.address lowest)) (never_go_below r.address rows) order).1
    (omega arith) (omega arith)

pub rises : (rows : List LineRow) (i j : ℕ) (d : LineRow) → never_go_down rows ≡ true → i ≤ j → j < length rows
    → (slice_index_or rows i d).address ≤ (slice_index_or rows j d).address
rises rows i j d order le lt = in_order 0 rows i j d order le lt

-- one more row
pub never_below_next : (lowest address : ℕ) (rows : List LineRow) (i : ℕ) → i < length rows
    → ((d : LineRow) → address ≡ (slice_index_or rows i d).address)
    → never_go_below lowest (drop i rows) ≡ (not (nat_lt address lowest) && never_go_below address (drop (i + 1) rows))
never_below_next lowest address [] i lt is = absurd (omega arith)
never_below_next lowest address (r ∷ rows) i lt is =
    ap (never_go_below lowest) (drop_more (r ∷ rows) i r lt)
    ∙ ap (λ (n : ℕ). not (nat_lt n lowest) && never_go_below n (drop (i + 1) (r ∷ rows))) (sym (is r))

-- ---- row by row

pub first_scanned : (a : ℕ) (rows : List LineRow) (index : ℕ) (x y : LineRow) → 0 < index
    → ((k : ℕ) (d : LineRow) → k + 1 ≡ index → (slice_index_or rows k d).address ≤ a)
    → a < (slice_index_or rows index y).address
    → slice_get rows (index - 1) ≡ Some x → slice_get rows index ≡ Some y
    → ((k : ℕ) (z w : LineRow) → k + 1 < index → IsPairAt a rows k z w → ⊥)
    → IsFirstPairOf a rows x y
first_scanned a rows index x y some from above first second none =
    let same : index - 1 + 1 ≡ index = omega arith in
    record {
      index = index - 1;
      is_pair = record {
        first = first;
        second = ap (slice_get rows) same ∙ second;
        from =
            subst (λ (r : LineRow). r.address ≤ a) (get_or_from_slice_get rows (index - 1) x x first)
            (from (index - 1) x same);
        before = subst (λ (r : LineRow). a < r.address) (get_or_from_slice_get rows index y y second) above;
      };
      none_before = λ k z w lt p. none k z w (omega arith) p;
    }

pub none_more : (a : ℕ) (rows : List LineRow) (index : ℕ)
    → ((k : ℕ) (x y : LineRow) → k + 1 < index → IsPairAt a rows k x y → ⊥)
    → ((k : ℕ) (d : LineRow) → k + 1 ≡ index → a < (slice_index_or rows k d).address)
    ⊎ ((d : LineRow) → (slice_index_or rows index d).address ≤ a)
    → (k : ℕ) (x y : LineRow) → k + 1 < index + 1 → IsPairAt a rows k x y → ⊥
none_more a rows index none apart k x y lt p = elim (cases_order (k + 1) index) [
  | inl same ↦ at_index same apart
  | inr (inl less) ↦ none k x y less p
  | inr (inr more) ↦ absurd (omega arith)
]
  where
    at_index : k + 1 ≡ index
        → ((k : ℕ) (d : LineRow) → k + 1 ≡ index → a < (slice_index_or rows k d).address)
        ⊎ ((d : LineRow) → (slice_index_or rows index d).address ≤ a)
        → ⊥
    at_index same (inl above) =
        let first : (slice_index_or rows k x).address
        ≡ x.address = ap (λ (r : LineRow). r.address) (get_or_from_slice_get rows k x x p.first) in
        absurd (omega (arith, above k x same, first, p.from))
    at_index same (inr from) =
        let second : (slice_index_or rows index y).address ≡ y.address =
        ap (λ (r : LineRow). r.address)
        (get_or_from_slice_get rows index y y (ap (slice_get rows) (sym same) ∙ p.second)) in
        absurd (omega (arith, from y, second, p.before))

-- ---- one sequence after the other

pub first_found : (a : ℕ) (sequences : List (List LineRow)) (i : ℕ) (rows : List LineRow) (x y : LineRow)
    → i < length sequences
    → rows ≡ slice_index_or sequences i rows → All (HasNoPair a) (take i sequences) → IsFirstPairOf a rows x y
    → IsFirstPair a sequences x y
first_found a sequences i rows x y lt item none first = record {
  earlier = take i sequences;
  rows = rows;
  later = drop (i + 1) sequences;
  parts = sym (take-append-drop i sequences) ∙ ap (λ (s : List (List LineRow)). take i sequences ++ s)
      (drop_more sequences i rows lt ∙ ap (λ (r : List LineRow). r ∷ drop (i + 1) sequences) (sym item));
  none_earlier = none;
  is_first = first;
}

-- the sequence of a first pair is one of those
pub first_pair_of_index : (a : ℕ) (sequences : List (List LineRow)) (index : ℕ) (x y : LineRow)
    → IsFirstPairIn a sequences index x y
    → IsFirstPair a sequences x y
first_pair_of_index a sequences index x y first =
    first_found a sequences index first.rows x y (slice_get_within sequences index first.rows first.there)
    (sym (get_or_from_slice_get sequences index first.rows first.rows first.there)) first.none_earlier first.is_first
