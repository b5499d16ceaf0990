-- The ranges of addresses of an index: each start with where the next one is.
use Rattle.std.specs.Prelude.{ℕ, Bool, false, nat_eq, if◌then◌else◌, List, [], ◌∷◌, drop, Option}
use Rattle.std.specs.Prelude.{Some, None}
use Rattle.std.specs.Option.{option_map}
use Rattle.gimli_index.specs.Meaning.{Place, Start, starts_of}
use Rattle.gimli_index.specs.Views.{index_of, place_of}
use Rattle.gimli_index.specs.declared.ranges.PlaceRange.{PlaceRange}
use Rattle.gimli_index.specs.declared.ranges.PlaceRanges.{PlaceRanges}

-- addresses of which one place holds, or nothing
pub record Range : Type 0 where
  pub start : ℕ
  -- the first address after them; None where there is none
  pub end : Option ℕ
  pub place : Option Place

-- the address of the first of these starts
abbrev pub first_start : List Start → Option ℕ
first_start [] = None
first_start (s ∷ starts) = Some s.address

-- whether a start has the address of the one after it, so that it holds nowhere
abbrev pub is_empty : Start → List Start → Bool
is_empty s [] = false
is_empty s (next ∷ starts) = nat_eq s.address next.address

-- a range goes up to the next start, and the last one on to the highest address; a start that holds
-- nowhere has none
abbrev pub ranges_of : List Start → List Range
ranges_of [] = []
ranges_of (s ∷ starts) =
    if is_empty s starts then ranges_of starts
    else (record { start = s.address; end = first_start starts; place = s.place })
    ∷ ranges_of starts

-- what the values of the crate stand for
abbrev pub range_of : PlaceRange → Range
range_of r = record { start = r.start; end = r.end; place = option_map place_of r.place }

-- the ranges that are still to come
abbrev pub ranges_left : PlaceRanges → List Range
ranges_left ranges = ranges_of (drop ranges.next (starts_of (index_of ranges.index)))
