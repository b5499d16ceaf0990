-- Pairs of rows that are taken in one by one.
use Rattle.std.proofs.Common.{◌≡◌, ℕ, zero, suc, ◌+◌, ◌<◌, ◌≤◌, List, [], ◌∷◌, ◌++◌, length, Some, refl, sym, ap, subst}
use Rattle.std.proofs.Common.{◌∙◌, inl, inr, append_assoc}
use Rattle.std.proofs.Common.{length-append, arith}
use Rattle.std.specs.Prelude.{slice_get, All}
use Rattle.std.proofs.lemmas.Bool.{cases_lt}
use Rattle.std.proofs.lemmas.List.Elements.{All-push}
use Rattle.std.proofs.lemmas.Option.{slice_get_within, same_Some}
use Rattle.gimli_line.specs.declared.run.row.LineRow.{LineRow}
use Rattle.gimli_lookup.specs.inside.FirstPair.{IsPairAt, HasNoPair, IsFirstPairOf, IsFirstPair}

-- ---- rows, and more after them

get_left : (xs ys : List LineRow) (k : ℕ) → k < length xs → slice_get (xs ++ ys) k ≡ slice_get xs k
get_left [] ys k lt = absurd (omega arith)
get_left (x ∷ xs) ys zero lt = refl
get_left (x ∷ xs) ys (suc k) lt = get_left xs ys k (omega arith)

get_seam : (xs : List LineRow) (y : LineRow) (ys : List LineRow) → slice_get (xs ++ y ∷ ys) (length xs) ≡ Some y
get_seam [] y ys = refl
get_seam (x ∷ xs) y ys = get_seam xs y ys

-- a pair among the first rows is one among all
pair_stays : (a : ℕ) (rows more : List LineRow) (k : ℕ) (x y : LineRow) → IsPairAt a rows k x y
    → IsPairAt a (rows ++ more) k x y
pair_stays a rows more k x y p = record {
  first = get_left rows more k (slice_get_within rows k x p.first) ∙ p.first;
  second = get_left rows more (k + 1) (slice_get_within rows (k + 1) y p.second) ∙ p.second;
  from = p.from;
  before = p.before;
}

-- a pair among all rows is one among the first, where they reach so far
pair_within : (a : ℕ) (rows more : List LineRow) (k : ℕ) (x y : LineRow) → k + 1 < length rows
    → IsPairAt a (rows ++ more) k x y → IsPairAt a rows k x y
pair_within a rows more k x y lt p = record {
  first = sym (get_left rows more k (omega arith)) ∙ p.first;
  second = sym (get_left rows more (k + 1) lt) ∙ p.second;
  from = p.from;
  before = p.before;
}

pub first_stays : (a : ℕ) (rows more : List LineRow) (x y : LineRow) → IsFirstPairOf a rows x y
    → IsFirstPairOf a (rows ++ more) x y
first_stays a rows more x y f =
    let there = slice_get_within rows (f.index + 1) y f.is_pair.second in
    record {
      index = f.index;
      is_pair = pair_stays a rows more f.index x y f.is_pair;
      none_before = λ k z w lt p. f.none_before k z w lt (pair_within a rows more k z w (omega (arith, there)) p);
    }

-- ---- no rows, and one row

pub no_rows : (a : ℕ) → HasNoPair a []
no_rows a k x y p = absurd (omega (arith, slice_get_within [] k x p.first))

pub one_row : (a : ℕ) (row : LineRow) → HasNoPair a (row ∷ [])
one_row a row k x y p = absurd (omega (arith, slice_get_within (row ∷ []) (k + 1) y p.second))

-- ---- a row more

module _ (a : ℕ) (front : List LineRow) (last row : LineRow) (none : HasNoPair a (front ++ last ∷ [])) where
  so_far : length (front ++ last ∷ []) ≡ length front + 1
  so_far = length-append front (last ∷ [])

  last_there : slice_get ((front ++ last ∷ []) ++ row ∷ []) (length front) ≡ Some last
  last_there = get_left (front ++ last ∷ []) (row ∷ []) (length front) (omega (arith, so_far)) ∙ get_seam front last []

  row_there : slice_get ((front ++ last ∷ []) ++ row ∷ []) (length front + 1) ≡ Some row
  row_there = ap (slice_get ((front ++ last ∷ []) ++ row ∷ [])) (sym so_far) ∙ get_seam (front ++ last ∷ []) row []

  none_before : (k : ℕ) (x y : LineRow) → k < length front → IsPairAt a ((front ++ last ∷ []) ++ row ∷ []) k x y → ⊥
  none_before k x y lt p = none k x y (pair_within a (front ++ last ∷ []) (row ∷ []) k x y (omega (arith, so_far)) p)

  pub pair_comes : last.address ≤ a → a < row.address → IsFirstPairOf a ((front ++ last ∷ []) ++ row ∷ []) last row
  pair_comes from before = record {
    index = length front;
    is_pair = record {
      first = last_there;
      second = row_there;
      from = from;
      before = before;
    };
    none_before = none_before;
  }

  at_last : (last.address ≤ a → a < row.address → ⊥) → (k : ℕ) (x y : LineRow) → k ≡ length front
      → IsPairAt a ((front ++ last ∷ []) ++ row ∷ []) k x y → ⊥
  at_last apart k x y same p =
      let first =
      same_Some x last (sym p.first ∙ ap (slice_get ((front ++ last ∷ []) ++ row ∷ [])) same ∙ last_there) in
      let second =
      same_Some y row
      (sym p.second ∙ ap (λ (j : ℕ). slice_get ((front ++ last ∷ []) ++ row ∷ []) (j + 1)) same ∙ row_there) in
      apart (subst (λ (r : LineRow). r.address ≤ a) first p.from)
      (subst (λ (r : LineRow). a < r.address) second p.before)

  pub none_comes : (last.address ≤ a → a < row.address → ⊥) → HasNoPair a ((front ++ last ∷ []) ++ row ∷ [])
  none_comes apart k x y p = elim (cases_lt k (length front)) [
    | inl lt ↦ none_before k x y lt p
    | inr ge ↦ at_last apart k x y
        (omega (
          arith,
          ge,
          so_far,
          slice_get_within ((front ++ last ∷ []) ++ row ∷ []) (k + 1) y p.second,
          length-append (front ++ last ∷ []) (row ∷ []),
        ))
        p
  ]

-- the same, of rows that are known to have a last one
pub pair_comes_after : (a : ℕ) (rows front : List LineRow) (last row : LineRow) → HasNoPair a rows
    → rows ≡ front ++ last ∷ [] → last.address ≤ a
    → a < row.address
    → IsFirstPairOf a (rows ++ row ∷ []) last row
pair_comes_after a rows front last row none parts from before =
    subst (λ (rs : List LineRow). IsFirstPairOf a (rs ++ row ∷ []) last row) (sym parts)
    (pair_comes a front last row (subst (HasNoPair a) parts none) from before)

pub none_comes_after : (a : ℕ) (rows front : List LineRow) (last row : LineRow) → HasNoPair a rows
    → rows ≡ front ++ last ∷ []
    → (last.address ≤ a → a < row.address → ⊥)
    → HasNoPair a (rows ++ row ∷ [])
none_comes_after a rows front last row none parts apart =
    subst (λ (rs : List LineRow). HasNoPair a (rs ++ row ∷ [])) (sym parts)
    (none_comes a front last row (subst (HasNoPair a) parts none) apart)

-- ---- a sequence more

pub first_ends : (a : ℕ) (ended : List (List LineRow)) (rows : List LineRow) (x y : LineRow) → All (HasNoPair a) ended
    → IsFirstPairOf a rows x y
    → IsFirstPair a (ended ++ rows ∷ []) x y
first_ends a ended rows x y none first = record {
  earlier = ended;
  rows = rows;
  later = [];
  parts = refl;
  none_earlier = none;
  is_first = first;
}

pub first_is_kept : (a : ℕ) (ended : List (List LineRow)) (rows : List LineRow) (x y : LineRow)
    → IsFirstPair a ended x y
    → IsFirstPair a (ended ++ rows ∷ []) x y
first_is_kept a ended rows x y f = record {
  earlier = f.earlier;
  rows = f.rows;
  later = f.later ++ rows ∷ [];
  parts =
      ap (λ (s : List (List LineRow)). s ++ rows ∷ []) f.parts ∙ append_assoc f.earlier (f.rows ∷ f.later) (rows ∷ []);
  none_earlier = f.none_earlier;
  is_first = f.is_first;
}

pub none_ends : (a : ℕ) (ended : List (List LineRow)) (rows : List LineRow) → All (HasNoPair a) ended → HasNoPair a rows
    → All (HasNoPair a) (ended ++ rows ∷ [])
none_ends a ended rows none one = All-push (HasNoPair a) ended rows none one
