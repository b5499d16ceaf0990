-- What an index says: from some addresses on a place holds, or nothing (docs/reference/INDEX.md,
-- "Starts").
use Rattle.std.specs.Prelude.{◌≡◌, ℕ, ◌+◌, ◌*◌, ◌%◌, ◌^◌, ◌<◌, ◌≤◌, Bool, false, List, map, fold}
use Rattle.std.specs.Prelude.{drop, slice_get}
use Rattle.std.specs.Prelude.{slice_range, nat_eq, nat_le, nat_lt, if◌then◌else◌, Option, Some}
use Rattle.std.specs.Prelude.{None, Result, Ok, Err}
use Rattle.std.specs.List.{range_with_len}
use Rattle.std.specs.Option.{option_map_or}
use Rattle.gimli_index.specs.Header.{number_at}
use Rattle.gimli_index.specs.Header.{size_of, statement_size}
use Rattle.gimli_index.specs.Parts.{Index}
use Rattle.gimli_index.specs.declared.place.NoPath.{NoPath}
use Rattle.gimli_index.specs.declared.place.NoPath.TheVariants.{Reason, Outside}

-- where code comes from
pub record Place : Type 0 where
  -- the whole path of the file, or why there is none
  pub path : Result (List ℕ) NoPath
  -- 0 where no line is known
  pub line : ℕ
  -- 0 for the left edge
  pub column : ℕ
  -- the code is a recommended place for a breakpoint (DWARF 5, section 6.2.2)
  pub is_stmt : Bool
  -- the prologue of a function ends here (DWARF 5, section 6.2.2)
  pub prologue_end : Bool
  -- the offset in .debug_line of the unit that says so
  pub unit : ℕ

-- from this address on, up to that of the next start, this place holds, or nothing
pub record Start : Type 0 where
  pub address : ℕ
  pub place : Option Place

-- ---- what holds at an address

-- the place of the last start whose address is at most a
abbrev pub place_at : ℕ → List Start → Option Place
place_at a starts = fold (λ current s. if nat_le s.address a then s.place else current) None starts

-- no start has a lower address than one before it
abbrev pub AreAscending : List Start → Type 0
AreAscending starts =
    (i j : ℕ) (x y : Start) → i < j → slice_get starts i ≡ Some x → slice_get starts j ≡ Some y
    → x.address ≤ y.address

-- ---- the starts of an index

-- whether a zero byte stands at an offset
abbrev pub is_zero_at : List ℕ → ℕ → Bool
is_zero_at bytes offset = option_map_or (nat_eq 0) (slice_get bytes offset) false

-- the path in these bytes of the part of paths, where it has them and a zero byte after them
abbrev pub path_in : List ℕ → ℕ → ℕ → Result (List ℕ) NoPath
path_in paths first size =
    if is_zero_at paths (first + size) then Ok (slice_range paths first (first + size))
    else Err Outside

-- the path of a source, unless it has the number of a reason
abbrev pub path_of : List ℕ → List ℕ → Result (List ℕ) NoPath
path_of paths source =
    if nat_eq (number_at 4 16 source) 0
    then path_in paths (number_at 4 8 source) (number_at 4 12 source)
    else Err (Reason (number_at 4 16 source))

-- the bytes from a source on
abbrev pub source_at : Index → ℕ → List ℕ
source_at index k = drop (24 * k) index.source_bytes

-- the highest bit of the word of a column says that the code is a statement, the next one that the
-- prologue ends there; the others are the column
abbrev pub column_in : ℕ → ℕ
column_in word = word % 2 ^ 30

-- whether the word of a column says that the code is a statement
abbrev pub is_statement_in : ℕ → Bool
is_statement_in word = nat_le (2 ^ 31) word

-- whether it says that the prologue ends there
abbrev pub ends_prologue_in : ℕ → Bool
ends_prologue_in word = nat_le (2 ^ 30) (word % 2 ^ 31)

-- the place of an entry and its source
abbrev pub place_from : List ℕ → List ℕ → List ℕ → Place
place_from paths entry source = record {
  path = path_of paths source;
  line = number_at 4 4 entry;
  column = column_in (number_at 4 8 entry);
  is_stmt = is_statement_in (number_at 4 8 entry);
  prologue_end = ends_prologue_in (number_at 4 8 entry);
  unit = number_at 8 0 source;
}

-- an entry has a place where its source is one of the index
abbrev pub entry_place : Index → List ℕ → Option Place
entry_place index entry =
    if nat_lt (number_at 4 0 entry) index.sources
    then Some (place_from index.path_bytes entry (source_at index (number_at 4 0 entry))) else None

-- how far above the base a start is
abbrev pub start_number : Index → ℕ → ℕ
start_number index i =
    number_at (size_of index.start_size) (size_of index.start_size * i) index.start_bytes

-- the start of a number: its address, and the place of its entry
abbrev pub start_at : Index → ℕ → Start
start_at index i = record {
  address = index.base + start_number index i;
  place = entry_place index (drop (12 * i) index.entry_bytes);
}

-- the starts, in order
abbrev pub starts_of : Index → List Start
starts_of index = map (start_at index) (range_with_len 0 index.starts)

-- ---- the statements of an index

-- an address at which code of a line begins
pub record Statement : Type 0 where
  -- the whole path of the file, or why there is none
  pub path : Result (List ℕ) NoPath
  pub line : ℕ
  pub address : ℕ

-- the path of the source of a number, if there is such a source
abbrev pub source_path_at : Index → ℕ → Result (List ℕ) NoPath
source_path_at index k =
    if nat_lt k index.sources then path_of index.path_bytes (source_at index k) else Err Outside

-- the bytes from a statement on
abbrev pub statement_from : Index → ℕ → List ℕ
statement_from index k = drop (statement_size index.start_size * k) index.statement_bytes

-- the statement of a number: the path of its source, its line and its address
abbrev pub statement_at : Index → ℕ → Statement
statement_at index k =
    let bytes = statement_from index k in record {
      path = source_path_at index (number_at 4 0 bytes);
      line = number_at 4 4 bytes;
      address = index.base + number_at (size_of index.start_size) 8 bytes;
    }

-- the statements, in order
abbrev pub statements_of : Index → List Statement
statements_of index = map (statement_at index) (range_with_len 0 index.statements)
