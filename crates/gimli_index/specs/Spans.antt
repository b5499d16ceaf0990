-- Where the paths of an index stand in its bytes (docs/reference/INDEX.md, "Parts").
use Rattle.std.specs.Prelude.{◌≡◌, ◌<◌, ◌≤◌, ℕ, ◌+◌, ◌*◌, List, [], ◌∷◌, fold, length, nat_le}
use Rattle.std.specs.Prelude.{nat_lt, slice_range, Option, None, Some, if◌then◌else◌}
use Rattle.std.specs.Prelude.{IfSome, MatchOption, option_map}
use Rattle.gimli_core.specs.Reading.{result_map}
use Rattle.gimli_index.specs.Header.{size_of, statement_size}
use Rattle.gimli_index.specs.Parts.{Index}
use Rattle.gimli_index.specs.Meaning.{Place, Start, place_at, start_at}
use Rattle.gimli_index.specs.declared.span.Span.{Span}
use Rattle.gimli_index.specs.declared.span.PlaceSpan.{PlaceSpan}
use Rattle.gimli_index.specs.declared.span.StartSpan.{StartSpan}

-- where the part of paths begins, from the first byte of the index on
abbrev pub paths_begin : Index → ℕ
paths_begin index =
    48 + 24 * index.sources + size_of index.start_size * index.starts + 12 * index.starts
    + statement_size index.start_size * index.statements

-- where the identity begins: right after the paths
abbrev pub identity_begin : Index → ℕ
identity_begin index = paths_begin index + length index.path_bytes

-- the paths and the identity of an index are these bytes of those that it was opened from
pub record StandsIn (bytes : List ℕ) (index : Index) : Type 0 where
  pub inside : identity_begin index + length index.identity ≤ length bytes
  pub paths : slice_range bytes (paths_begin index) (identity_begin index) ≡ index.path_bytes
  pub identity : slice_range bytes (identity_begin index)
      (identity_begin index + length index.identity)
      ≡ index.identity

-- the bytes of a span
abbrev pub path_at : List ℕ → Span → List ℕ
path_at paths s = slice_range paths s.first (s.first + s.size)

-- the place whose path is among these bytes
abbrev pub place_among : List ℕ → PlaceSpan → Place
place_among paths p = record {
  path = result_map (path_at paths) p.path;
  line = p.line;
  column = p.column;
  is_stmt = p.is_stmt;
  prologue_end = p.prologue_end;
  unit = p.unit;
}

-- the start whose path is among these bytes
abbrev pub start_among : List ℕ → StartSpan → Start
start_among paths s = record { address = s.first; place = option_map (place_among paths) s.place }

-- the addresses from the start of an index on, up to the next start where there is one
abbrev pub IsRangeOf : Index → ℕ → ℕ → Option ℕ → Type 0
IsRangeOf index i first end = (first ≡ (start_at index i).address)
    × MatchOption end (i + 1 ≡ index.starts)
    (λ e. (i + 1 < index.starts) × (e ≡ (start_at index (i + 1)).address))

-- the address of the last start that is at most an address
abbrev pub start_up_to : ℕ → List Start → Option ℕ
start_up_to a starts =
    fold (λ current s. if nat_le s.address a then Some s.address else current) None starts

-- that of the first start above it
abbrev pub start_above : ℕ → List Start → Option ℕ
start_above a [] = None
start_above a (s ∷ starts) = if nat_lt a s.address then Some s.address else start_above a starts

-- from the last start that is at most an address, up to the first start above it where there is
-- one, all holds that holds at the address
pub record HoldsAround (starts : List Start) (a first : ℕ) (end : Option ℕ) : Type 0 where
  pub first_is : start_up_to a starts ≡ Some first
  pub end_is : end ≡ start_above a starts
  pub begins : first ≤ a
  pub ends : IfSome end (λ e. a < e)
  pub same : (b : ℕ) → first ≤ b → IfSome end (λ e. b < e) → place_at b starts ≡ place_at a starts
