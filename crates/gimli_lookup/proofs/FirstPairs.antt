-- The first pair of rows round an address: where it stands, and that it is the one that is found.
use Rattle.std.proofs.Common.{◌≡◌, ◌≤◌, ◌<◌, ◌+◌, ℕ, zero, suc, Bool, true, false, List, [], ◌∷◌, ◌++◌, length, take}
use Rattle.std.proofs.Common.{refl, sym, ap, subst, ◌∙◌, arith, if◌then◌else◌}
use Rattle.std.specs.Prelude.{Option, None, Some, MatchOption, All, slice_get, nat_le, nat_lt, ◌&&◌}
use Rattle.std.specs.Option.{option_map, option_or}
use Rattle.std.proofs.lemmas.Bool.{and_parts, cond-true, le-leb, leb-true, ltb-true, true≢false}
use Rattle.std.proofs.lemmas.Bool.{lt-ltb}
use Rattle.std.proofs.lemmas.List.Elements.{All-append, All-cons, All-drop, All-head, All-nil, All-tail, All-take}
use Rattle.std.proofs.lemmas.Option.{same_Some}
use Rattle.std.proofs.Math.Seq.{drop-append_seam, take-append_seam}
use Rattle.gimli_line.specs.declared.run.row.LineRow.{LineRow}
use Rattle.gimli_lookup.specs.FirstPair.{first_pair, first_pair_of, is_round}
use Rattle.gimli_lookup.specs.Section.{KeptUnit, all_sequences, found_at, found_from}
use Rattle.gimli_lookup.specs.declared.section_lookup.CoveringRows.{CoveringRows}
use Rattle.gimli_lookup.specs.inside.FirstPair.{IsPairAt, HasNoPair, IsFirstPairOf, IsFirstPair, IsFirstFound}
use Rattle.gimli_lookup.specs.inside.FirstPair.{IsFirstPairOfUnit, IsFoundAt}

-- ---- tests

round : (a : ℕ) (x y : LineRow) → x.address ≤ a → a < y.address → is_round a x y ≡ true
round a x y from before =
    both (nat_le x.address a) (nat_lt a y.address) (le-leb x.address a from) (lt-ltb a y.address before)
  where
    both : (b c : Bool) → b ≡ true → c ≡ true → (b && c) ≡ true
    both true c is also = also
    both false c is also = absurd cc

is_pair : (a : ℕ) (x y : LineRow) → is_round a x y ≡ true → (x.address ≤ a) × (a < y.address)
is_pair a x y is =
    let parts = and_parts (nat_le x.address a) (nat_lt a y.address) is in
    (leb-true x.address a parts.0, ltb-true a y.address parts.1)

abbrev some_pair : LineRow → LineRow → Option (LineRow × LineRow)
some_pair x y = Some (x, y)

after_one : (k : ℕ) → suc k ≡ k + 1
after_one k = omega arith

-- ---- one sequence

module _ (a : ℕ) where
  -- a pair of rows stands one further where a row comes before them
  one_further : (r : LineRow) (rows : List LineRow) (k : ℕ) (x y : LineRow) → IsPairAt a rows k x y
      → IsPairAt a (r ∷ rows) (suc k) x y
  one_further r rows k x y p = record {
    first = p.first;
    second = ap (slice_get (r ∷ rows)) (sym (after_one (suc k))) ∙ ap (slice_get rows) (after_one k) ∙ p.second;
    from = p.from;
    before = p.before;
  }

  one_nearer : (r : LineRow) (rows : List LineRow) (k : ℕ) (x y : LineRow) → IsPairAt a (r ∷ rows) (suc k) x y
      → IsPairAt a rows k x y
  one_nearer r rows k x y p = record {
    first = p.first;
    second = ap (slice_get rows) (sym (after_one k)) ∙ ap (slice_get (r ∷ rows)) (after_one (suc k)) ∙ p.second;
    from = p.from;
    before = p.before;
  }

  at_front : (x y : LineRow) (rows : List LineRow) → is_round a x y ≡ true → IsPairAt a (x ∷ y ∷ rows) 0 x y
  at_front x y rows is =
      let pair = is_pair a x y is in
      record { first = refl; second = refl; from = pair.0; before = pair.1 }

  -- the pair at the front is of the first two rows
  front_is : (x y : LineRow) (rows : List LineRow) (z w : LineRow) → IsPairAt a (x ∷ y ∷ rows) 0 z w
      → is_round a x y ≡ true
  front_is x y rows z w p =
      let first : x ≡ z = same_Some x z p.first in
      let second : y ≡ w = same_Some y w p.second in
      round a x y (subst (λ (r : LineRow). r.address ≤ a) (sym first) p.from)
      (subst (λ (r : LineRow). a < r.address) (sym second) p.before)

  no_pair_of_one : (x : LineRow) → HasNoPair a (x ∷ [])
  no_pair_of_one x k y z p =
      let two : slice_get (x ∷ []) (suc k) ≡ Some z = ap (slice_get (x ∷ [])) (after_one k) ∙ p.second in
      cc

  -- without a pair at the front, those of the rows are those after the first one
  none_further : (x y : LineRow) (rows : List LineRow) → is_round a x y ≡ false → HasNoPair a (y ∷ rows)
      → HasNoPair a (x ∷ y ∷ rows)
  none_further x y rows not none zero z w p = true≢false (sym (front_is x y rows z w p) ∙ not)
  none_further x y rows not none (suc k) z w p = none k z w (one_nearer x (y ∷ rows) k z w p)

  first_further : (x y : LineRow) (rows : List LineRow) (z w : LineRow) → is_round a x y ≡ false
      → IsFirstPairOf a (y ∷ rows) z w → IsFirstPairOf a (x ∷ y ∷ rows) z w
  first_further x y rows z w not f = record {
    index = suc f.index;
    is_pair = one_further x (y ∷ rows) f.index z w f.is_pair;
    none_before = earlier;
  }
    where
      earlier : (k : ℕ) (s t : LineRow) → k < suc f.index → IsPairAt a (x ∷ y ∷ rows) k s t → ⊥
      earlier zero s t lt p = true≢false (sym (front_is x y rows s t p) ∙ not)
      earlier (suc k) s t lt p = f.none_before k s t (omega (arith, lt)) (one_nearer x (y ∷ rows) k s t p)

  -- what is found in a sequence stands there
  pub pair_stands : (rows : List LineRow)
      → MatchOption (first_pair a rows) (HasNoPair a rows) (λ p. IsFirstPairOf a rows p.0 p.1)
  pair_stands [] = λ k x y p. (let no = p.first in absurd cc)
  pair_stands (x ∷ []) = no_pair_of_one x
  pair_stands (x ∷ y ∷ rows) = by_round (is_round a x y) refl (pair_stands (y ∷ rows))
    where
      further : (found : Option (LineRow × LineRow)) → is_round a x y ≡ false
          → MatchOption found (HasNoPair a (y ∷ rows)) (λ p. IsFirstPairOf a (y ∷ rows) p.0 p.1)
          → MatchOption found (HasNoPair a (x ∷ y ∷ rows)) (λ p. IsFirstPairOf a (x ∷ y ∷ rows) p.0 p.1)
      further None not none = none_further x y rows not none
      further (Some p) not first = first_further x y rows p.0 p.1 not first

      by_round : (b : Bool) → is_round a x y ≡ b
          → MatchOption (first_pair a (y ∷ rows)) (HasNoPair a (y ∷ rows)) (λ p. IsFirstPairOf a (y ∷ rows) p.0 p.1)
          → MatchOption (if b then Some (x, y) else first_pair a (y ∷ rows)) (HasNoPair a (x ∷ y ∷ rows))
          (λ p. IsFirstPairOf a (x ∷ y ∷ rows) p.0 p.1)
      by_round true is later =
          record { index = 0; is_pair = at_front x y rows is; none_before = λ k z w lt. absurd (omega (arith, lt)) }
      by_round false is later = further (first_pair a (y ∷ rows)) is later

  -- rows without a pair
  pub none_is : (rows : List LineRow) → HasNoPair a rows → first_pair a rows ≡ None
  none_is [] none = refl
  none_is (x ∷ []) none = refl
  none_is (x ∷ y ∷ rows) none =
      by_round (is_round a x y) refl
      (none_is (y ∷ rows) (λ k z w p. none (suc k) z w (one_further x (y ∷ rows) k z w p)))
    where
      by_round : (b : Bool) → is_round a x y ≡ b → first_pair a (y ∷ rows) ≡ None
          → (if b then Some (x, y) else first_pair a (y ∷ rows)) ≡ None
      by_round true is later = absurd (none 0 x y (at_front x y rows is))
      by_round false is later = later

  -- the first pair of rows
  first_by : (rows : List LineRow) (k : ℕ) (x y : LineRow) → IsPairAt a rows k x y
      → ((j : ℕ) (z w : LineRow) → j < k → IsPairAt a rows j z w → ⊥) → first_pair a rows ≡ Some (x, y)
  first_by [] k x y p none = let no = p.first in absurd cc
  first_by (r ∷ []) k x y p none = absurd (no_pair_of_one r k x y p)
  first_by (r ∷ n ∷ rows) zero x y p none =
      cond-true (is_round a r n) (some_pair r n) (first_pair a (n ∷ rows)) (front_is r n rows x y p)
      ∙ ap (λ (z : LineRow). some_pair z n) (same_Some r x p.first)
      ∙ ap (λ (z : LineRow). some_pair x z) (same_Some n y p.second)
  first_by (r ∷ n ∷ rows) (suc k) x y p none =
      by_round (is_round a r n) refl
      (first_by (n ∷ rows) k x y (one_nearer r (n ∷ rows) k x y p)
      (λ j z w lt q. none (suc j) z w (omega (arith, lt)) (one_further r (n ∷ rows) j z w q)))
    where
      by_round : (b : Bool) → is_round a r n ≡ b → first_pair a (n ∷ rows) ≡ Some (x, y)
          → (if b then Some (r, n) else first_pair a (n ∷ rows)) ≡ Some (x, y)
      by_round true is later = absurd (none 0 r n (omega arith) (at_front r n rows is))
      by_round false is later = later

  pub first_is : (rows : List LineRow) (x y : LineRow) → IsFirstPairOf a rows x y → first_pair a rows ≡ Some (x, y)
  first_is rows x y f = first_by rows f.index x y f.is_pair f.none_before

-- ---- sequences

pub all_left : {X : Type 0} (P : X → Type 0) (xs ys : List X) → All P (xs ++ ys) → All P xs
all_left P xs ys h = subst (All P) (take-append_seam xs ys) (All-take P (length xs) (xs ++ ys) h)

pub all_right : {X : Type 0} (P : X → Type 0) (xs ys : List X) → All P (xs ++ ys) → All P ys
all_right P xs ys h = subst (All P) (drop-append_seam xs ys) (All-drop P (length xs) (xs ++ ys) h)

module _ (a : ℕ) where
  -- what is found among sequences stands there
  pub pair_of_stands : (sequences : List (List LineRow)) → IsFirstFound a sequences (first_pair_of a sequences)
  pair_of_stands [] = All-nil (HasNoPair a)
  pair_of_stands (rows ∷ later) =
      by_both (first_pair a rows) (first_pair_of a later) (pair_stands a rows) (pair_of_stands later)
    where
      by_both : (here there : Option (LineRow × LineRow))
          → MatchOption here (HasNoPair a rows) (λ p. IsFirstPairOf a rows p.0 p.1)
          → IsFirstFound a later there → IsFirstFound a (rows ∷ later) (option_or here there)
      by_both None None none none_later = All-cons (HasNoPair a) rows later none none_later
      by_both None (Some p) none f = record {
        earlier = rows ∷ f.earlier;
        rows = f.rows;
        later = f.later;
        parts = ap (λ (ss : List (List LineRow)). rows ∷ ss) f.parts;
        none_earlier = All-cons (HasNoPair a) rows f.earlier none f.none_earlier;
        is_first = f.is_first;
      }
      by_both (Some p) there first found = record {
        earlier = [];
        rows = rows;
        later = later;
        parts = refl;
        none_earlier = All-nil (HasNoPair a);
        is_first = first;
      }

  pub none_of_is : (sequences : List (List LineRow)) → All (HasNoPair a) sequences → first_pair_of a sequences ≡ None
  none_of_is [] none = refl
  none_of_is (rows ∷ later) none =
      ap (λ (o : Option (LineRow × LineRow)). option_or o (first_pair_of a later))
      (none_is a rows (All-head (HasNoPair a) rows later none))
      ∙ none_of_is later (All-tail (HasNoPair a) rows later none)

  first_after : (earlier : List (List LineRow)) (rows : List LineRow) (later : List (List LineRow)) (x y : LineRow)
      → All (HasNoPair a) earlier → first_pair a rows ≡ Some (x, y)
      → first_pair_of a (earlier ++ rows ∷ later) ≡ Some (x, y)
  first_after [] rows later x y none is =
      ap (λ (o : Option (LineRow × LineRow)). option_or o (first_pair_of a later)) is
  first_after (e ∷ earlier) rows later x y none is =
      ap (λ (o : Option (LineRow × LineRow)). option_or o (first_pair_of a (earlier ++ rows ∷ later)))
      (none_is a e (All-head (HasNoPair a) e earlier none))
      ∙ first_after earlier rows later x y (All-tail (HasNoPair a) e earlier none) is

  pub first_of_is : (sequences : List (List LineRow)) (x y : LineRow) → IsFirstPair a sequences x y
      → first_pair_of a sequences ≡ Some (x, y)
  first_of_is sequences x y f =
      ap (first_pair_of a) f.parts
      ∙ first_after f.earlier f.rows f.later x y f.none_earlier (first_is a f.rows x y f.is_first)

  pub found_first : (sequences : List (List LineRow)) (found : Option (LineRow × LineRow))
      → IsFirstFound a sequences found → found ≡ first_pair_of a sequences
  found_first sequences None none = sym (none_of_is sequences none)
  found_first sequences (Some p) first = sym (first_of_is sequences p.0 p.1 first)

-- ---- units

pub of_each_unit : (a : ℕ) (units : List KeptUnit) → All (HasNoPair a) (all_sequences units)
    → All (λ (u : KeptUnit). All (HasNoPair a) u.sequences) units
of_each_unit a [] none = All-nil (λ (u : KeptUnit). All (HasNoPair a) u.sequences)
of_each_unit a (u ∷ units) none =
    All-cons (λ (u : KeptUnit). All (HasNoPair a) u.sequences) u units
    (all_left (HasNoPair a) u.sequences (all_sequences units) none)
    (of_each_unit a units (all_right (HasNoPair a) u.sequences (all_sequences units) none))

-- rows with the index of their unit
abbrev pub of_unit : ℕ → LineRow × LineRow → CoveringRows
of_unit unit pair = record { unit = unit; row = pair.0; next = pair.1 }

-- rows without it
abbrev pub pair_of : CoveringRows → LineRow × LineRow
pair_of f = (f.row, f.next)

module _ (a : ℕ) where
  later_first : (u : KeptUnit) (units : List KeptUnit) (i : ℕ) (x y : LineRow)
      → IsFirstPairOfUnit a (u ∷ units) (suc i) x y → IsFirstPairOfUnit a units i x y
  later_first u units i x y f = record {
    unit = f.unit;
    there = f.there;
    none_earlier = All-tail (λ (v : KeptUnit). All (HasNoPair a) v.sequences) u (take i units) f.none_earlier;
    is_first = f.is_first;
  }

  further_first : (u : KeptUnit) (units : List KeptUnit) (i : ℕ) (x y : LineRow) → All (HasNoPair a) u.sequences
      → IsFirstPairOfUnit a units i x y → IsFirstPairOfUnit a (u ∷ units) (suc i) x y
  further_first u units i x y none f = record {
    unit = f.unit;
    there = f.there;
    none_earlier = All-cons (λ (v : KeptUnit). All (HasNoPair a) v.sequences) u (take i units) none f.none_earlier;
    is_first = f.is_first;
  }

  -- what is found in units whose first has an index
  abbrev IsFoundFrom : ℕ → List KeptUnit → Option CoveringRows → Type 0
  IsFoundFrom first units found =
      MatchOption found (All (HasNoPair a) (all_sequences units)) (λ f.
      (i : ℕ) × (first + i ≡ f.unit) × IsFirstPairOfUnit a units i f.row f.next)

  from_stands : (first : ℕ) (units : List KeptUnit) → IsFoundFrom first units (found_from a first units)
  from_stands first [] = All-nil (HasNoPair a)
  from_stands first (u ∷ units) =
      by_both (first_pair_of a u.sequences) (found_from a (first + 1) units) (pair_of_stands a u.sequences)
      (from_stands (first + 1) units)
    where
      by_both : (here : Option (LineRow × LineRow)) (there : Option CoveringRows) → IsFirstFound a u.sequences here
          → IsFoundFrom (first + 1) units there
          → IsFoundFrom first (u ∷ units) (option_or (option_map (of_unit first) here) there)
      by_both None None none none_later = All-append (HasNoPair a) u.sequences (all_sequences units) none none_later
      by_both None (Some f) none found = (
        suc found.0,
        (let next : first + suc found.0 ≡ first + 1 + found.0 = omega arith in next ∙ found.1),
        further_first u units found.0 f.row f.next none found.2,
      )
      by_both (Some p) there pair found = (
        0,
        omega arith,
        record {
          unit = u;
          there = refl;
          none_earlier = All-nil (λ (v : KeptUnit). All (HasNoPair a) v.sequences);
          is_first = pair;
        },
      )

  -- what is found in units stands there
  pub found_stands : (units : List KeptUnit) → IsFoundAt units a (found_at a units)
  found_stands units = by_found (found_at a units) (from_stands 0 units)
    where
      by_found : (found : Option CoveringRows) → IsFoundFrom 0 units found → IsFoundAt units a found
      by_found None none = none
      by_found (Some f) first =
          let same : first.0 ≡ f.unit = omega (arith, first.1) in
          subst (λ (i : ℕ). IsFirstPairOfUnit a units i f.row f.next) same first.2

  none_from : (first : ℕ) (units : List KeptUnit) → All (λ (u : KeptUnit). All (HasNoPair a) u.sequences) units
      → found_from a first units ≡ None
  none_from first [] none = refl
  none_from first (u ∷ units) none =
      ap (λ (o : Option (LineRow × LineRow)).
      option_or (option_map (of_unit first) o) (found_from a (first + 1) units))
      (none_of_is a u.sequences (All-head (λ (v : KeptUnit). All (HasNoPair a) v.sequences) u units none))
      ∙ none_from (first + 1) units (All-tail (λ (v : KeptUnit). All (HasNoPair a) v.sequences) u units none)

  first_from : (first : ℕ) (units : List KeptUnit) (i : ℕ) (x y : LineRow) → IsFirstPairOfUnit a units i x y
      → found_from a first units ≡ Some (of_unit (first + i) (x, y))
  first_from first [] i x y f = let no = f.there in absurd cc
  first_from first (u ∷ units) zero x y f =
      let here : first ≡ first + 0 = omega arith in
      let is : first_pair_of a u.sequences ≡ Some (x, y) =
      ap (λ (v : KeptUnit). first_pair_of a v.sequences) (same_Some u f.unit f.there)
      ∙ first_of_is a f.unit.sequences x y f.is_first in
      ap (λ (o : Option (LineRow × LineRow)).
      option_or (option_map (of_unit first) o) (found_from a (first + 1) units)) is
      ∙ ap (λ (n : ℕ). Some (of_unit n (x, y))) here
  first_from first (u ∷ units) (suc i) x y f =
      let next : first + 1 + i ≡ first + suc i = omega arith in
      ap (λ (o : Option (LineRow × LineRow)).
      option_or (option_map (of_unit first) o) (found_from a (first + 1) units))
      (none_of_is a u.sequences
      (All-head (λ (v : KeptUnit). All (HasNoPair a) v.sequences) u (take i units) f.none_earlier))
      ∙ first_from (first + 1) units i x y (later_first u units i x y f)
      ∙ ap (λ (n : ℕ). Some (of_unit n (x, y))) next

  -- rows that stand in units where those are that are found
  pub found_is : (units : List KeptUnit) (found : Option CoveringRows) → IsFoundAt units a found
      → found ≡ found_at a units
  found_is units None none = sym (none_from 0 units (of_each_unit a units none))
  found_is units (Some f) first =
      let unit : 0 + f.unit ≡ f.unit = omega arith in
      ap (λ (n : ℕ). Some (of_unit n (f.row, f.next))) (sym unit)
      ∙ sym (first_from 0 units f.unit f.row f.next first)

-- ---- the sequences of all units

or_assoc : {X : Type 0} (x y z : Option X) → option_or (option_or x y) z ≡ option_or x (option_or y z)
or_assoc None y z = refl
or_assoc (Some x) y z = refl

first_append : (a : ℕ) (xs ys : List (List LineRow))
    → first_pair_of a (xs ++ ys) ≡ option_or (first_pair_of a xs) (first_pair_of a ys)
first_append a [] ys = refl
first_append a (rows ∷ xs) ys =
    ap (option_or (first_pair a rows)) (first_append a xs ys)
    ∙ sym (or_assoc (first_pair a rows) (first_pair_of a xs) (first_pair_of a ys))

map_or : (unit : ℕ) (here : Option (LineRow × LineRow)) (later : Option CoveringRows)
    → option_map pair_of (option_or (option_map (of_unit unit) here) later)
    ≡ option_or here (option_map pair_of later)
map_or unit None later = refl
map_or unit (Some (x, y)) later = refl

from_all : (a first : ℕ) (units : List KeptUnit)
    → option_map pair_of (found_from a first units) ≡ first_pair_of a (all_sequences units)
from_all a first [] = refl
from_all a first (u ∷ units) =
    map_or first (first_pair_of a u.sequences) (found_from a (first + 1) units)
    ∙ ap (option_or (first_pair_of a u.sequences)) (from_all a (first + 1) units)
    ∙ sym (first_append a u.sequences (all_sequences units))

-- what is found in units is the first pair of the sequences of all of them
pub found_among_all : (a : ℕ) (units : List KeptUnit)
    → option_map pair_of (found_at a units) ≡ first_pair_of a (all_sequences units)
found_among_all a units = from_all a 0 units
