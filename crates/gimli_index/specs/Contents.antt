-- What an index is made of, and its bytes (docs/reference/INDEX.md).
use Rattle.std.specs.Prelude.{◌≡◌, ◌≤◌, ◌<◌, ℕ, ◌+◌, ◌-◌, ◌^◌, true, false, List, ◌++◌, length}
use Rattle.std.specs.Prelude.{flat_map, slice_get, nat_eq, if◌then◌else◌, Option, Some, None}
use Rattle.std.specs.Prelude.{Result, Err, All, IfSome}
use Rattle.std.specs.Option.{option_map, option_map_or, option_and_then}
use Rattle.gimli_core.specs.Numbers.{is_address_size, number_bytes}
use Rattle.gimli_index.specs.Header.{magic, size_of, highest_base}
use Rattle.gimli_index.specs.Meaning.{Place, Start, path_in}
use Rattle.gimli_index.specs.Meaning.{Statement as StatementMeaning}
use Rattle.gimli_index.specs.Order.{path_number}
use Rattle.gimli_index.specs.declared.contents.Entry.{Entry}
use Rattle.gimli_index.specs.declared.contents.Source.{Source}
use Rattle.gimli_index.specs.declared.contents.SourceLine.{SourceLine}
use Rattle.gimli_index.specs.declared.contents.Statement.{Statement}
use Rattle.gimli_index.specs.declared.header.StartSize.{StartSize}
use Rattle.gimli_index.specs.declared.place.NoPath.{NoPath}
use Rattle.gimli_index.specs.declared.place.NoPath.TheVariants.{Reason, Outside}

-- what an index is made of: sources, starts with the places that hold from them on, statements, the
-- bytes of the paths, and the identity of the program
pub record Contents : Type 0 where
  pub address_size : ℕ
  pub start_size : StartSize
  pub base : ℕ
  pub sources : List Source
  pub entries : List Entry
  pub statements : List Statement
  pub paths : List ℕ
  pub identity : List ℕ

-- ---- what they mean

-- the path of a source, among the bytes of paths; or the reason why it has none
abbrev pub source_path : List ℕ → Source → Result (List ℕ) NoPath
source_path paths s =
    if nat_eq s.reason 0 then path_in paths s.first s.size else Err (Reason s.reason)

-- the place of a line in a source
abbrev pub line_in : List ℕ → SourceLine → Source → Place
line_in paths l s = record {
  path = source_path paths s;
  line = l.line;
  column = l.column;
  is_stmt = l.is_stmt;
  prologue_end = l.prologue_end;
  unit = s.unit;
}

-- the place of a line, if there is a source of its number
abbrev pub line_place : Contents → SourceLine → Option Place
line_place c l = option_map (line_in c.paths l) (slice_get c.sources l.source)

-- the start that an entry stands for
abbrev pub entry_start : Contents → Entry → Start
entry_start c e = record { address = e.address; place = option_and_then (line_place c) e.place }

-- the path of the source of a number, if there is such a source
abbrev pub path_at : Contents → ℕ → Result (List ℕ) NoPath
path_at c k = option_map_or (source_path c.paths) (slice_get c.sources k) (Err Outside)

-- what a statement says of a line
abbrev pub statement_in : Contents → Statement → StatementMeaning
statement_in c s = record { path = path_at c s.source; line = s.line; address = s.address }

-- ---- their bytes

-- a number in so many bytes, the least significant first
abbrev pub le_bytes : ℕ → ℕ → List ℕ
le_bytes size n = number_bytes false size n

-- the header: 48 bytes
abbrev pub header_bytes : Contents → List ℕ
header_bytes c =
    magic
    ++ le_bytes 4 2
    ++ le_bytes 2 c.address_size
    ++ le_bytes 2 (size_of c.start_size)
    ++ le_bytes 8 c.base
    ++ le_bytes 4 (length c.entries)
    ++ le_bytes 4 (length c.sources)
    ++ le_bytes 4 (length c.paths)
    ++ le_bytes 4 (length c.identity)
    ++ le_bytes 4 (length c.statements)
    ++ le_bytes 4 0

-- a source, with the number of its name
abbrev pub source_bytes : List ℕ → Source → List ℕ
source_bytes paths s =
    le_bytes 8 s.unit ++ le_bytes 4 s.first ++ le_bytes 4 s.size ++ le_bytes 4 s.reason
    ++ le_bytes 4 (path_number (source_path paths s))

-- a start, as far as it is above the base
abbrev pub start_bytes : StartSize → ℕ → Entry → List ℕ
start_bytes size base e = le_bytes (size_of size) (e.address - base)

-- the column in the lower 30 bits of a word; its highest bit says that the code is a statement, the
-- next one that the prologue ends there
abbrev pub column_word : SourceLine → ℕ
column_word l =
    l.column + (if l.is_stmt then 2 ^ 31 else 0) + (if l.prologue_end then 2 ^ 30 else 0)

-- the place of a line: the number of its source, the line and the word of its column
abbrev pub line_bytes : SourceLine → List ℕ
line_bytes l = le_bytes 4 l.source ++ le_bytes 4 l.line ++ le_bytes 4 (column_word l)

-- no source has the number of a gap
abbrev pub place_bytes : Option SourceLine → List ℕ
place_bytes None = le_bytes 4 0xffff_ffff ++ le_bytes 4 0 ++ le_bytes 4 0
place_bytes (Some l) = line_bytes l

-- the entry of a start: its place
abbrev pub entry_bytes : Entry → List ℕ
entry_bytes e = place_bytes e.place

-- a statement: the number of its source, its line, and its address as far as it is above the base
abbrev pub statement_bytes : StartSize → ℕ → Statement → List ℕ
statement_bytes size base s =
    le_bytes 4 s.source ++ le_bytes 4 s.line ++ le_bytes (size_of size) (s.address - base)

-- the bytes of an index: its header and its parts, one after the other
abbrev pub index_bytes : Contents → List ℕ
index_bytes c =
    header_bytes c
    ++ flat_map (source_bytes c.paths) c.sources
    ++ flat_map (start_bytes c.start_size c.base) c.entries
    ++ flat_map entry_bytes c.entries
    ++ flat_map (statement_bytes c.start_size c.base) c.statements
    ++ c.paths
    ++ c.identity

-- ---- what fits

-- the numbers of the place of a line fit their fields
abbrev pub FitsLine : SourceLine → Type 0
FitsLine l = (l.source < 2 ^ 32) × (l.line < 2 ^ 32) × (l.column < 2 ^ 30)

-- so do those of a place, if there is one
abbrev pub FitsPlace : Option SourceLine → Type 0
FitsPlace None = Unit {0}
FitsPlace (Some l) = FitsLine l

-- the column of a place has 30 bits
abbrev pub HasColumn : Option SourceLine → Type 0
HasColumn place = IfSome place (λ l. l.column < 2 ^ 30)

-- an address isn't below the base, nor further above it than a start holds
abbrev pub IsNear : StartSize → ℕ → ℕ → Type 0
IsNear size base address = (base ≤ address) × (address < base + 256 ^ size_of size)

-- so do those of a statement
abbrev pub FitsStatement : StartSize → ℕ → Statement → Type 0
FitsStatement size base s =
    (s.source < 2 ^ 32) × (s.line < 2 ^ 32) × IsNear size base s.address

-- so do those of a source
abbrev pub FitsSource : Source → Type 0
FitsSource s = (s.unit < 2 ^ 64) × (s.first < 2 ^ 32) × (s.size < 2 ^ 32) × (s.reason < 2 ^ 32)

-- each part has so few elements that 32 bits count them
pub record FitsCounts (c : Contents) : Type 0 where
  pub entries : length c.entries < 2 ^ 32
  pub sources : length c.sources < 2 ^ 32
  pub paths : length c.paths < 2 ^ 32
  pub identity : length c.identity < 2 ^ 32
  pub statements : length c.statements < 2 ^ 32

-- the numbers fit their fields
pub record Fits (c : Contents) : Type 0 where
  pub address_size : is_address_size c.address_size ≡ true
  pub base : c.base ≤ highest_base c.start_size
  pub counts : FitsCounts c
  pub near : All (λ e. IsNear c.start_size c.base e.address) c.entries
  pub places : All (λ e. FitsPlace e.place) c.entries
  pub sources : All FitsSource c.sources
  pub statements : All (FitsStatement c.start_size c.base) c.statements
