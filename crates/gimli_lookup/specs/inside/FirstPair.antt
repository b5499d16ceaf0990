-- The first pair of rows round an address, as proofs meet it: where it stands, and how far a search
-- for it has come.
use Rattle.std.specs.Prelude.{◌≡◌, ◌≤◌, ◌<◌, ◌+◌, ℕ, List, ◌∷◌, ◌++◌, Option, Some, slice_get, All}
use Rattle.std.specs.Prelude.{MatchOption, take, []}
use Rattle.gimli_line.specs.declared.run.row.LineRow.{LineRow}
use Rattle.gimli_lookup.specs.Section.{KeptUnit, all_sequences}
use Rattle.gimli_lookup.specs.declared.section_lookup.CoveringRows.{CoveringRows}
use Rattle.gimli_lookup.specs.declared.run.PairSearch.{PairSearch}
use Rattle.gimli_lookup.specs.declared.run.PairSearch.TheVariants.{Start, After, Open, Ended}
use Rattle.gimli_lookup.specs.Cut.{AreCutAtEnds}

-- x stands at an index among the rows of a sequence and y right after it, x's address is at most a,
-- and y's above a
pub record IsPairAt (a : ℕ) (rows : List LineRow) (index : ℕ) (x y : LineRow) : Type 0 where
  pub first : slice_get rows index ≡ Some x
  pub second : slice_get rows (index + 1) ≡ Some y
  pub from : x.address ≤ a
  pub before : a < y.address

-- no index among the rows of a sequence has such a pair
abbrev pub HasNoPair : ℕ → List LineRow → Type 0
HasNoPair a rows = (index : ℕ) (x y : LineRow) → IsPairAt a rows index x y → ⊥

-- x and y are such a pair, and no index before theirs has one
pub record IsFirstPairOf (a : ℕ) (rows : List LineRow) (x y : LineRow) : Type 0 where
  pub index : ℕ
  pub is_pair : IsPairAt a rows index x y
  pub none_before : (k : ℕ) (z w : LineRow) → k < index → IsPairAt a rows k z w → ⊥

-- x and y are the first such pair of the first sequence that has one
pub record IsFirstPair (a : ℕ) (sequences : List (List LineRow)) (x y : LineRow) : Type 0 where
  pub earlier : List (List LineRow)
  pub rows : List LineRow
  pub later : List (List LineRow)
  pub parts : sequences ≡ earlier ++ rows ∷ later
  pub none_earlier : All (HasNoPair a) earlier
  pub is_first : IsFirstPairOf a rows x y

-- x and y are the first such pair of the sequence at an index, and no sequence before it has one
pub record IsFirstPairIn (a : ℕ) (sequences : List (List LineRow)) (sequence : ℕ) (x y : LineRow)
    : Type 0 where
  pub rows : List LineRow
  pub there : slice_get sequences sequence ≡ Some rows
  pub none_earlier : All (HasNoPair a) (take sequence sequences)
  pub is_first : IsFirstPairOf a rows x y

-- what is found is the first pair of the sequences, or None where they have none
abbrev pub IsFirstFound : ℕ → List (List LineRow) → Option (LineRow × LineRow) → Type 0
IsFirstFound a sequences found =
    MatchOption found (All (HasNoPair a) sequences) (λ pair. IsFirstPair a sequences pair.0 pair.1)

-- x and y are the first adjacent rows round an address in the unit at an index, and no unit before
-- it has any
pub record IsFirstPairOfUnit (a : ℕ) (units : List KeptUnit) (index : ℕ) (x y : LineRow)
    : Type 0 where
  pub unit : KeptUnit
  pub there : slice_get units index ≡ Some unit
  pub none_earlier : All (λ u. All (HasNoPair a) u.sequences) (take index units)
  pub is_first : IsFirstPair a unit.sequences x y

-- this is found at an address: the first rows round it and their unit, or None where no rows are
-- round it
abbrev pub IsFoundAt : List KeptUnit → ℕ → Option CoveringRows → Type 0
IsFoundAt units a found =
    MatchOption found (All (HasNoPair a) (all_sequences units)) (λ f.
    IsFirstPairOfUnit a units f.unit f.row f.next)

-- what is known of the sequences that have ended, and of the rows of the open one
abbrev pub Knows : ℕ → List (List LineRow) → List LineRow → PairSearch → Type 0
Knows a ended unended Start = All (HasNoPair a) ended × (unended ≡ [])
Knows a ended unended (After last) =
    All (HasNoPair a) ended × HasNoPair a unended × (front : List LineRow)
    × (unended ≡ front ++ last ∷ [])
Knows a ended unended (Open x y) = All (HasNoPair a) ended × IsFirstPairOf a unended x y
Knows a ended unended (Ended x y) = IsFirstPair a ended x y

-- the search has come through these rows
pub record HasPassed (a : ℕ) (rows : List LineRow) (search : PairSearch) : Type 0 where
  pub sequences : List (List LineRow)
  pub cut : AreCutAtEnds rows sequences
  pub known : Knows a sequences cut.unended search
