-- What an index says (docs/reference/INDEX.md), as C sees it.
use Rattle.std.specs.Prelude.{◌≡◌, ◌≤◌, ◌⊎◌, ℕ, ◌+◌, List, length, slice_range, Option, Some, None}
use Rattle.std.specs.Prelude.{Result, Ok, Err, true, false, drop, slice_get, MatchOption}
use Rattle.std.specs.List.{AllZip}
use Rattle.gimli_index.specs.Meaning.{place_at, starts_of, AreAscending, Place, Start}
use Rattle.gimli_index.specs.Parts.{index_at, Index}
use Rattle.gimli_index.specs.Ranges.{first_start}
use Rattle.gimli_index.specs.Sound.{IsSound, IsFaultOf}
use Rattle.gimli_index.specs.Spans.{HoldsAround}
use Rattle.gimli_index.specs.declared.error.IndexError.{IndexError}
use Rattle.gimli_index.specs.declared.error.IndexError.TheVariants.{NotIndex, HeaderCut, Version}
use Rattle.gimli_index.specs.declared.error.IndexError.TheVariants.{AddressSize, StartSize, Base}
use Rattle.gimli_index.specs.declared.error.IndexError.TheVariants.{Cut, NotAscending, PathOutside}
use Rattle.gimli_index.specs.declared.error.IndexError.TheVariants.{NotInOrder}
use Rattle.gimli_index.specs.declared.place.NoPath.{NoPath}
use Rattle.gimli_index.specs.declared.place.NoPath.TheVariants.{Reason, Outside}
use Rattle.gimli_c.specs.declared.index.header.GimliIndex.{GimliIndex}
use Rattle.gimli_c.specs.declared.index.place.GimliPlace.{GimliPlace}

-- ---- what is no index, and what isn't sound

-- the number of a refusal
abbrev pub index_status : IndexError → ℕ
index_status NotIndex = 34
index_status (Version _) = 35
index_status HeaderCut = 36
index_status Cut = 36
index_status (AddressSize _) = 37
index_status (StartSize _) = 37
index_status (Base _) = 37
index_status NotAscending = 38
index_status PathOutside = 39
index_status NotInOrder = 38

-- the bytes begin with this index
abbrev pub IsIndex : List ℕ → Index → Type 0
IsIndex bytes index = index_at bytes ≡ Ok index

-- they begin with none, for the reason of this number
pub record IsNoIndex (bytes : List ℕ) (status : ℕ) : Type 0 where
  pub error : IndexError
  pub refused : index_at bytes ≡ Err error
  pub status_is : status ≡ index_status error

-- they begin with an index whose ranges ascend, whose paths are inside, and whose statements are in
-- order
pub record IsSoundIndex (bytes : List ℕ) : Type 0 where
  pub index : Index
  pub is : IsIndex bytes index
  pub sound : IsSound index

-- they begin with an index that isn't so, for the reason of this number
pub record IsFaultyIndex (bytes : List ℕ) (status : ℕ) : Type 0 where
  pub index : Index
  pub is : IsIndex bytes index
  pub error : IndexError
  pub fault : IsFaultOf index error
  pub status_is : status ≡ index_status error

-- bytes are no index, or one with a fault, by this number
abbrev pub IsUnsoundIndex : List ℕ → ℕ → Type 0
IsUnsoundIndex bytes status = IsNoIndex bytes status ⊎ IsFaultyIndex bytes status

-- ---- what an index says of itself

-- what the index that bytes begin with says of itself, as C sees it
pub record SeesIndex (bytes : List ℕ) (seen : GimliIndex) : Type 0 where
  pub index : Index
  pub is : IsIndex bytes index
  pub ranges : seen.ranges ≡ length (starts_of index)
  pub address_size : seen.address_size ≡ index.address_size
  pub inside : seen.identity + seen.identity_size ≤ length bytes
  pub identity : slice_range bytes seen.identity (seen.identity + seen.identity_size)
      ≡ index.identity

-- ---- what it says of an address

-- the path of a place is these bytes of the index, with a zero byte after them, or there is none
-- for the reason of a number
abbrev pub SeesPath : List ℕ → Result (List ℕ) NoPath → ℕ → ℕ → ℕ → Type 0
SeesPath bytes (Ok path) first size no_path =
    (no_path ≡ 0) × (slice_get bytes (first + size) ≡ Some 0)
    × (slice_range bytes first (first + size) ≡ path)
SeesPath bytes (Err (Reason n)) first size no_path = (no_path ≡ n) × (first ≡ 0) × (size ≡ 0)
SeesPath bytes (Err Outside) first size no_path =
    (no_path ≡ 0xffff_ffff) × (first ≡ 0) × (size ≡ 0)

-- a place of an index that stands in some bytes, as C sees it
pub record SeesPlace (bytes : List ℕ) (address : ℕ) (place : Place) (seen : GimliPlace)
    : Type 0 where
  pub address_is : seen.address ≡ address
  pub known : seen.known ≡ true
  pub line : seen.line ≡ place.line
  pub column : seen.column ≡ place.column
  pub is_stmt : seen.is_stmt ≡ place.is_stmt
  pub prologue_end : seen.prologue_end ≡ place.prologue_end
  pub unit : seen.unit ≡ place.unit
  pub path : SeesPath bytes place.path seen.path seen.path_size seen.no_path

-- the end of a range; 0 where it goes on up to the greatest address
abbrev pub end_seen : Option ℕ → ℕ
end_seen None = 0
end_seen (Some end) = end

-- the place of an address, and the addresses around it with the same one, where the ranges of the
-- index ascend
pub record SeesPlaceAt (bytes : List ℕ) (address : ℕ) (seen : GimliPlace) : Type 0 where
  pub index : Index
  pub is : IsIndex bytes index
  pub place : Place
  pub said : AreAscending (starts_of index) → place_at address (starts_of index) ≡ Some place
  pub seen_is : SeesPlace bytes address place seen
  pub end : Option ℕ
  pub around : AreAscending (starts_of index)
      → HoldsAround (starts_of index) address seen.first end
  pub end_is : seen.end ≡ end_seen end

-- the index says nothing of an address, where its ranges ascend
pub record HasNoPlace (bytes : List ℕ) (address : ℕ) : Type 0 where
  pub index : Index
  pub is : IsIndex bytes index
  pub said : AreAscending (starts_of index) → place_at address (starts_of index) ≡ None

-- addresses of which nothing is known: all other numbers are 0
abbrev pub unknown_place : ℕ → ℕ → ℕ → GimliPlace
unknown_place address first end = record {
  address = address;
  unit = 0;
  path = 0;
  path_size = 0;
  line = 0;
  column = 0;
  no_path = 0;
  known = false;
  is_stmt = false;
  prologue_end = false;
  first = first;
  end = end;
}

-- what is answered then: all numbers but the address are 0
abbrev pub no_index_place : ℕ → GimliPlace
no_index_place address = unknown_place address 0 0

-- what is answered to an address: its place, or that the index says nothing of it
abbrev pub IsIndexAnswer : List ℕ → ℕ → GimliPlace → Type 0
IsIndexAnswer bytes address seen =
    SeesPlaceAt bytes address seen ⊎ ((seen ≡ no_index_place address) × HasNoPlace bytes address)

-- each place of an array of the caller has the answer to the address that it had
abbrev pub WritesIndexAnswers : List ℕ → List GimliPlace → List GimliPlace → Type 0
WritesIndexAnswers bytes old new =
    AllZip (λ asked seen. IsIndexAnswer bytes asked.address seen) old new

-- ---- what it says from a start on

-- the start of a number, and where the next one is
pub record SeesStart (bytes : List ℕ) (number : ℕ) (seen : GimliPlace) : Type 0 where
  pub index : Index
  pub is : IsIndex bytes index
  pub start : Start
  pub there : slice_get (starts_of index) number ≡ Some start
  pub first : seen.first ≡ start.address
  pub end : seen.end ≡ end_seen (first_start (drop (number + 1) (starts_of index)))
  pub place : MatchOption start.place (seen ≡ unknown_place start.address start.address seen.end)
      (λ p. SeesPlace bytes start.address p seen)

-- there is no such start
pub record HasNoStart (bytes : List ℕ) (number : ℕ) : Type 0 where
  pub index : Index
  pub is : IsIndex bytes index
  pub none : slice_get (starts_of index) number ≡ None
