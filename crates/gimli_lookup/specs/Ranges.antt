-- The ranges of addresses at which a lookup finds the same.
use Rattle.std.specs.Prelude.{◌≡◌, ◌<◌, ◌≤◌, ℕ, List, Option, None, Some}
use Rattle.gimli_lookup.specs.Section.{KeptUnit, found_at}
use Rattle.gimli_lookup.specs.declared.ranges.CoveredRange.{CoveredRange}

-- an address is below an end, if there is one
abbrev pub IsBefore : ℕ → Option ℕ → Type 0
IsBefore b None = Unit {0}
IsBefore b (Some end) = b < end

-- this is found at each address of a range
abbrev pub AreFoundIn : List KeptUnit → CoveredRange → Type 0
AreFoundIn units range =
    (a : ℕ) → range.start ≤ a → IsBefore a range.end → range.rows ≡ found_at a units

-- the ranges that are left: those from an address on, if there are any
pub record RangesLeft : Type 0 where
  pub units : List KeptUnit
  pub from : Option ℕ
