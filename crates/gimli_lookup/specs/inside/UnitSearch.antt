-- The first rows round some addresses, looked for in a unit while its rows come.
use Rattle.std.specs.Prelude.{◌≡◌, ◌⊎◌, ◌≤◌, ℕ, Bool, true, nat_le, nat_lt, ◌&&◌, if◌then◌else◌}
use Rattle.std.specs.Prelude.{List, [], ◌∷◌, ◌++◌, length, take, Option, Some, None, All, IfSome}
use Rattle.std.specs.Prelude.{MatchOption, is_none, is_some}
use Rattle.std.specs.List.{list_any}
use Rattle.std.specs.Option.{option_or}
use Rattle.gimli_line.specs.declared.run.row.LineRow.{LineRow}
use Rattle.gimli_lookup.specs.declared.section_lookup.CoveringRows.{CoveringRows}
use Rattle.gimli_lookup.specs.inside.FirstPair.{HasNoPair, IsFirstPairOf, IsFirstPair}
use Rattle.gimli_lookup.specs.inside.SequenceCut.{SequenceCut}

-- whether an address stands between the rows of a pair
abbrev pub is_covered : ℕ → CoveringRows → Bool
is_covered a p = nat_le p.row.address a && nat_lt a p.next.address

-- the first of some pairs that an address stands between
abbrev pub first_covering : ℕ → List CoveringRows → Option CoveringRows
first_covering a [] = None
first_covering a (p ∷ pairs) = if is_covered a p then Some p else first_covering a pairs

-- whether nothing is found by some pairs at one of the addresses, and something by others
abbrev pub finds_more : List ℕ → List CoveringRows → List CoveringRows → Bool
finds_more addresses old new =
    list_any (λ a. is_none (first_covering a old) && is_some (first_covering a new)) addresses

-- pairs are kept behind others, as far as one of the addresses needs them
pub record AreKeptBehind (addresses : List ℕ) (old pairs new : List CoveringRows) : Type 0 where
  pub more : List CoveringRows
  pub parts : new ≡ old ++ more
  pub first : All (λ a. first_covering a new
      ≡ option_or (first_covering a old) (first_covering a pairs)) addresses
  pub needed : (more ≡ []) ⊎ (finds_more addresses old new ≡ true)

-- what is found at an address in the parts of a unit
abbrev pub IsFoundOf : ℕ → List (List LineRow) → ℕ → Option CoveringRows → Type 0
IsFoundOf unit parts a found =
    MatchOption found (All (HasNoPair a) parts) (λ p.
    (p.unit ≡ unit) × IsFirstPair a parts p.row p.next)

-- what is found at an address in parts, and then in the rows of the part that is open
abbrev pub Knows : ℕ → List (List LineRow) → List LineRow → ℕ → Option CoveringRows → Type 0
Knows unit parts rows a None = All (HasNoPair a) parts × HasNoPair a rows
Knows unit parts rows a (Some p) =
    (p.unit ≡ unit)
    × (IsFirstPair a parts p.row p.next
    ⊎ (All (HasNoPair a) parts × IsFirstPairOf a rows p.row p.next))

-- the last of some rows, if there is one
abbrev pub IsLastOf : List LineRow → Option LineRow → Type 0
IsLastOf rows None = rows ≡ []
IsLastOf rows (Some last) = (front : List LineRow) × (rows ≡ front ++ last ∷ [])

-- none of the addresses is at least the first one here and below the second
abbrev pub AreClear : List ℕ → ℕ → ℕ → Type 0
AreClear addresses from end = All (λ a. from ≤ a → end ≤ a) addresses

-- how far a search in a unit has come: the pairs that are kept, how many of them are of sequences
-- that have ended, the last row of the part that is open, and an address up to which no other one
-- is asked for from that row on
pub record UnitSearch : Type 0 where
  pub unit : ℕ
  pub lowest : ℕ
  pub pairs : List CoveringRows
  pub ended : ℕ
  pub last : Option LineRow
  pub clear : ℕ

-- before the first row
abbrev pub no_pairs : ℕ → ℕ → UnitSearch
no_pairs unit lowest =
    record { unit = unit; lowest = lowest; pairs = []; ended = 0; last = None; clear = 0 }

-- the pair of the last row of a unit and the next one, if there is a last row
abbrev pub pair_with : ℕ → Option LineRow → LineRow → List CoveringRows
pair_with unit None r = []
pair_with unit (Some last) r = record { unit = unit; row = last; next = r } ∷ []

-- a search in a unit knows at each address what the rows say that were cut so far
pub record Sees (unit : ℕ) (addresses : List ℕ) (cut : SequenceCut) (s : UnitSearch) : Type 0 where
  pub same_unit : s.unit ≡ unit
  pub lowest : s.lowest ≡ cut.lowest
  pub last : IsLastOf cut.rows s.last
  pub clear : IfSome s.last (λ last. AreClear addresses last.address s.clear)
  pub parts_within : cut.ended ≤ length cut.parts
  pub pairs_within : s.ended ≤ length s.pairs
  pub known : All (λ a. Knows unit cut.parts cut.rows a (first_covering a s.pairs)) addresses
  pub ended : All (λ a. IsFoundOf unit (take cut.ended cut.parts) a
      (first_covering a (take s.ended s.pairs))) addresses
