-- What the starts of sequences, one after the other, say of an address.
use Rattle.std.proofs.Common.{◌≡◌, ◌∙◌, ℕ, zero, suc, ◌+◌, ◌<◌, ◌≤◌, Bool, true, false, leb, List, [], ◌∷◌, ◌++◌}
use Rattle.std.proofs.Common.{Option, None, Some, refl}
use Rattle.std.proofs.Common.{ap, subst, inl, inr, arith, if◌then◌else◌, not, nat_lt}
use Rattle.std.specs.Prelude.{flat_map, fold, nat_le, slice_get, ◌&&◌}
use Rattle.std.proofs.lemmas.Bool.{and_parts, cases_lt, cond-false, cond-true, le-leb, lt-leb, ltb-false, ltb-true}
use Rattle.std.proofs.lemmas.Bool.{not-true}
use Rattle.std.proofs.lemmas.List.Sums.{fold-append}
use Rattle.std.proofs.lemmas.Option.{same_Some}
use Rattle.gimli_line.specs.declared.run.row.LineRow.{LineRow}
use Rattle.gimli_lookup.specs.inside.FirstPair.{HasNoPair, IsPairAt}
use Rattle.gimli_lookup.specs.Probes.{never_go_below}
use Rattle.gimli_lookup.specs.Section.{ListedUnit}
use Rattle.gimli_index.specs.Found.{row_place}
use Rattle.gimli_lookup.specs.ProgramPaths.{Texts}
use Rattle.gimli_index.specs.Meaning.{Place, Start}
use Rattle.gimli_index.specs.inside.Turns.{UnitRows, end_after, end_start, row_start, starts_of_rows, starts_of_turn}

-- what starts say of an address, after this
abbrev pub said_after : ℕ → Option Place → List Start → Option Place
said_after a current starts =
    fold (λ (c : Option Place) (s : Start). if nat_le s.address a then s.place else c) current starts

said_at : (a : ℕ) (c : Option Place) (s : Start) (ss : List Start) → s.address ≤ a
    → said_after a c (s ∷ ss) ≡ said_after a s.place ss
said_at a c s ss low =
    ap (λ (p : Option Place). said_after a p ss) (cond-true (leb s.address a) s.place c (le-leb s.address a low))

said_above : (a : ℕ) (c : Option Place) (s : Start) (ss : List Start) → a < s.address
    → said_after a c (s ∷ ss) ≡ said_after a c ss
said_above a c s ss high =
    ap (λ (p : Option Place). said_after a p ss) (cond-false (leb s.address a) s.place c (lt-leb s.address a high))

-- ---- rows that never go down

pub first_from : (b : ℕ) (r : LineRow) (rows : List LineRow) → never_go_below b (r ∷ rows) ≡ true
    → (b ≤ r.address) × (never_go_below r.address rows ≡ true)
first_from b r rows order =
    let p = and_parts (not (nat_lt r.address b)) (never_go_below r.address rows) order in
    (ltb-false r.address b (not-true (nat_lt r.address b) p.0), p.1)

pub after_first : (b : ℕ) (r : LineRow) (rows : List LineRow) → b ≤ r.address → never_go_below r.address rows ≡ true
    → never_go_below b (r ∷ rows) ≡ true
after_first b r rows from order = by_test (nat_lt r.address b) refl
  where
    by_test : (x : Bool) → nat_lt r.address b ≡ x → (not x && never_go_below r.address rows) ≡ true
    by_test true is = absurd (omega (arith, from, ltb-true r.address b is))
    by_test false is = order

pub split_order : (b : ℕ) (xs ys : List LineRow) → never_go_below b (xs ++ ys) ≡ true
    → (never_go_below b xs ≡ true) × (never_go_below (end_after b xs) ys ≡ true)
split_order b [] ys order = (refl, order)
split_order b (x ∷ xs) ys order =
    let first = first_from b x (xs ++ ys) order in
    let rest = split_order x.address xs ys first.1 in
    (after_first b x xs first.0 rest.0, rest.1)

pub end_is_above : (b : ℕ) (rows : List LineRow) → never_go_below b rows ≡ true → b ≤ end_after b rows
end_is_above b [] order = omega arith
end_is_above b (r ∷ rows) order =
    let first = first_from b r rows order in
    omega (arith, first.0, end_is_above r.address rows first.1)

-- no row is above the last one
pub below_end : (b : ℕ) (rows : List LineRow) (k : ℕ) (x : LineRow) → never_go_below b rows ≡ true
    → slice_get rows k ≡ Some x → x.address ≤ end_after b rows
below_end b [] k x order there = absurd cc
below_end b (r ∷ rows) zero x order there =
    let first = first_from b r rows order in
    omega (arith, ap (λ (y : LineRow). y.address) (same_Some r x there), end_is_above r.address rows first.1)
below_end b (r ∷ rows) (suc k) x order there = below_end r.address rows k x (first_from b r rows order).1 there

module _ (t : Texts) (u : ListedUnit) (a : ℕ) where
  -- rows that are all above the address say nothing of it
  rows_above : (b : ℕ) (rows : List LineRow) (ss : List Start) → never_go_below b rows ≡ true → a < b
      → (c : Option Place)
      → said_after a c (starts_of_rows t u rows ++ ss) ≡ said_after a c ss
  rows_above b [] ss order high c = refl
  rows_above b (r ∷ []) ss order high c = by_end r.end_sequence
    where
      above : a < r.address
      above = omega (arith, high, (first_from b r [] order).0)

      by_end : (e : Bool)
          → said_after a c ((if e then end_start r.address ∷ [] else row_start t u r ∷ end_start r.address ∷ []) ++ ss)
          ≡ said_after a c ss
      by_end true = said_above a c (end_start r.address) ss above
      by_end false =
          said_above a c (row_start t u r) (end_start r.address ∷ ss) above
          ∙ said_above a c (end_start r.address) ss above
  rows_above b (r ∷ next ∷ rows) ss order high c =
      let first = first_from b r (next ∷ rows) order in
      let above : a < r.address = omega (arith, high, first.0) in
      said_above a c (row_start t u r) (starts_of_rows t u (next ∷ rows) ++ ss) above
      ∙ rows_above r.address (next ∷ rows) ss first.1 above c

  -- of a pair round the address the first row is said
  rows_round : (b : ℕ) (rows : List LineRow) (ss : List Start) (k : ℕ) (x y : LineRow) → never_go_below b rows ≡ true
      → slice_get rows k ≡ Some x
      → slice_get rows (suc k) ≡ Some y → x.address ≤ a → a < y.address → (c : Option Place)
      → said_after a c (starts_of_rows t u rows ++ ss) ≡ said_after a (Some (row_place t u x)) ss
  rows_round b [] ss k x y order one two low high c = absurd cc
  rows_round b (r ∷ []) ss k x y order one two low high c = absurd cc
  rows_round b (r ∷ next ∷ rows) ss zero x y order one two low high c =
      let first = first_from b r (next ∷ rows) order in
      let second = first_from r.address next rows first.1 in
      let row_is : r ≡ x = same_Some r x one in
      let next_is : next ≡ y = same_Some next y two in
      let at_most : r.address ≤ a = omega (arith, ap (λ (z : LineRow). z.address) row_is, low) in
      let above : a < next.address = omega (arith, ap (λ (z : LineRow). z.address) next_is, high) in
      said_at a c (row_start t u r) (starts_of_rows t u (next ∷ rows) ++ ss) at_most
      ∙ rows_above next.address (next ∷ rows) ss (after_first next.address next rows (omega arith) second.1) above
      (Some (row_place t u r))
      ∙ ap (λ (z : LineRow). said_after a (Some (row_place t u z)) ss) row_is
  rows_round b (r ∷ next ∷ rows) ss (suc k) x y order one two low high c =
      rows_round r.address (next ∷ rows) ss k x y (first_from b r (next ∷ rows) order).1 one two low high
      (if nat_le r.address a then Some (row_place t u r) else c)

  -- rows that begin at or below the address and have no such pair end there too
  rows_past : (r : LineRow) (rows : List LineRow) (ss : List Start)
      → ((k : ℕ) (x y : LineRow) → slice_get (r ∷ rows) k ≡ Some x
      → slice_get (r ∷ rows) (suc k) ≡ Some y → x.address ≤ a → a < y.address → ⊥) → r.address ≤ a → (c : Option Place)
      → said_after a c (starts_of_rows t u (r ∷ rows) ++ ss) ≡ said_after a None ss
  rows_past r [] ss none low c = by_end r.end_sequence
    where
      by_end : (e : Bool)
          → said_after a c ((if e then end_start r.address ∷ [] else row_start t u r ∷ end_start r.address ∷ []) ++ ss)
          ≡ said_after a None ss
      by_end true = said_at a c (end_start r.address) ss low
      by_end false =
          said_at a c (row_start t u r) (end_start r.address ∷ ss) low
          ∙ said_at a (Some (row_place t u r)) (end_start r.address) ss low
  rows_past r (next ∷ rows) ss none low c = elim (cases_lt a next.address) [
    | inl high ↦ absurd (none 0 r next refl refl low high)
    | inr also ↦
        rows_past next rows ss (λ k x y one two. none (suc k) x y one two) also
        (if nat_le r.address a then Some (row_place t u r) else c)
  ]

-- ---- sequences

abbrev pub rows_of_all : List UnitRows → List LineRow
rows_of_all ss = flat_map (λ (s : UnitRows). s.rows) ss

after_one : (k : ℕ) → suc k ≡ k + 1
after_one k = omega arith

module _ (t : Texts) (a : ℕ) where
  all_above : (b : ℕ) (ss : List UnitRows) → never_go_below b (rows_of_all ss) ≡ true → a < b → (c : Option Place)
      → said_after a c (flat_map (starts_of_turn t) ss) ≡ c
  all_above b [] order high c = refl
  all_above b (s ∷ ss) order high c =
      let parts = split_order b s.rows (rows_of_all ss) order in
      rows_above t s.unit a b s.rows (flat_map (starts_of_turn t) ss) parts.0 high c
      ∙ all_above (end_after b s.rows) ss parts.1 (omega (arith, high, end_is_above b s.rows parts.0)) c

  -- where no sequence has a pair round the address, nothing is said
  pub none_round : (b : ℕ) (ss : List UnitRows) → never_go_below b (rows_of_all ss) ≡ true
      → ((k : ℕ) (s : UnitRows) → slice_get ss k ≡ Some s → HasNoPair a s.rows)
      → said_after a None (flat_map (starts_of_turn t) ss) ≡ None
  none_round b [] order none = refl
  none_round b (s ∷ ss) order none =
      let parts = split_order b s.rows (rows_of_all ss) order in
      by_rows s.rows parts.0 (none 0 s refl)
      ∙ none_round (end_after b s.rows) ss parts.1 (λ k x there. none (suc k) x there)
    where
      by_rows : (rows : List LineRow) → never_go_below b rows ≡ true → HasNoPair a rows
          → said_after a None (starts_of_rows t s.unit rows ++ flat_map (starts_of_turn t) ss)
          ≡ said_after a None (flat_map (starts_of_turn t) ss)
      by_rows [] order no_pair = refl
      by_rows (r ∷ rows) order no_pair = elim (cases_lt a r.address) [
        | inl high ↦
            rows_above t s.unit a r.address (r ∷ rows) (flat_map (starts_of_turn t) ss)
            (after_first r.address r rows (omega arith) (first_from b r rows order).1) high None
        | inr low ↦
            rows_past t s.unit a r rows (flat_map (starts_of_turn t) ss)
            (λ k x y one two from before. no_pair k x y
            (record {
              first = one;
              second = subst (λ (n : ℕ). slice_get (r ∷ rows) n ≡ Some y) (after_one k) two;
              from = from;
              before = before;
            }))
            low None
      ]

  -- else the first row of the pair
  pub one_round : (b : ℕ) (ss : List UnitRows) (j : ℕ) (s : UnitRows) (k : ℕ) (x y : LineRow)
      → never_go_below b (rows_of_all ss) ≡ true
      → slice_get ss j ≡ Some s → IsPairAt a s.rows k x y → (c : Option Place)
      → said_after a c (flat_map (starts_of_turn t) ss) ≡ Some (row_place t s.unit x)
  one_round b [] j s k x y order there pair c = absurd cc
  one_round b (z ∷ ss) zero s k x y order there pair c =
      let same : z ≡ s = same_Some z s there in
      let parts = split_order b z.rows (rows_of_all ss) order in
      let one : slice_get z.rows k ≡ Some x = ap (λ (w : UnitRows). slice_get w.rows k) same ∙ pair.first in
      let two : slice_get z.rows (suc k) ≡ Some y = ap (λ (w : UnitRows). slice_get w.rows (suc k)) same
      ∙ ap (slice_get s.rows) (after_one k) ∙ pair.second in
      rows_round t z.unit a b z.rows (flat_map (starts_of_turn t) ss) k x y parts.0 one two pair.from pair.before c
      ∙ all_above (end_after b z.rows) ss parts.1 (omega (arith, pair.before, below_end b z.rows (suc k) y parts.0 two))
      (Some (row_place t z.unit x))
      ∙ ap (λ (w : UnitRows). Some (row_place t w.unit x)) same
  one_round b (z ∷ ss) (suc j) s k x y order there pair c =
      let parts = split_order b z.rows (rows_of_all ss) order in
      fold-append (λ (c : Option Place) (s : Start). if nat_le s.address a then s.place else c) c (starts_of_turn t z)
      (flat_map (starts_of_turn t) ss)
      ∙ one_round (end_after b z.rows) ss j s k x y parts.1 there pair (said_after a c (starts_of_turn t z))
