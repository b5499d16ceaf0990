-- The sources of an index in the making.
use Rattle.std.specs.Prelude.{◌≡◌, ◌≢◌, ◌⊎◌, ◌<◌, ◌≤◌, ◌^◌, ◌-◌, ◌++◌, ◌∷◌, ℕ, IfSome, List, []}
use Rattle.std.specs.Prelude.{map}
use Rattle.std.specs.Prelude.{length, slice_get, Option, None, Some, All, AllPairs}
use Rattle.std.specs.Option.{option_and_then}
use Rattle.gimli_index.specs.Contents.{Contents, HasColumn, entry_start, line_place, source_path}
use Rattle.gimli_index.specs.Found.{found_place, unit_path}
use Rattle.gimli_lookup.specs.ProgramPaths.{Texts}
use Rattle.gimli_index.specs.Made.{EntriesAscend}
use Rattle.gimli_index.specs.Meaning.{Place, Start, place_at}
use Rattle.gimli_index.specs.Refused.{HasLongPaths, HasManyFiles, IsFoundFile, IsFoundPath}
use Rattle.gimli_index.specs.Refused.{IsFoundRow}
use Rattle.gimli_index.specs.Short.{IsShort, IsSpanOf}
use Rattle.gimli_index.specs.inside.Paths.{ArePaths, GoesOn, PathList, no_paths}
use Rattle.gimli_index.specs.declared.error.MakeError.{MakeError}
use Rattle.gimli_index.specs.declared.error.MakeError.TheVariants.{NotAscending, TooManyEntries}
use Rattle.gimli_index.specs.declared.error.MakeError.TheVariants.{TooManyStatements}
use Rattle.gimli_index.specs.declared.error.MakeError.TheVariants.{TooManySources, PathsTooLarge}
use Rattle.gimli_index.specs.declared.error.MakeError.TheVariants.{IdentityTooLarge, LineTooLarge}
use Rattle.gimli_index.specs.declared.error.MakeError.TheVariants.{ColumnTooLarge, OutOfMemory}
use Rattle.gimli_index.specs.declared.contents.Entry.{Entry}
use Rattle.gimli_index.specs.declared.contents.Source.{Source}
use Rattle.gimli_index.specs.declared.contents.SourceLine.{SourceLine}
use Rattle.gimli_index.specs.declared.header.StartSize.TheVariants.{Four}
use Rattle.gimli_index.specs.declared.source_keys.SourceKey.{SourceKey}
use Rattle.gimli_line.specs.declared.run.row.LineRow.{LineRow}
use Rattle.gimli_lookup.specs.Ranges.{IsBefore}
use Rattle.gimli_lookup.specs.Section.{KeptUnit, found_at}
use Rattle.gimli_lookup.specs.declared.section_lookup.CoveringRows.{CoveringRows}

-- the sources, each with the unit and the file that it is of, and their paths
pub record Table : Type 0 where
  pub keys : List SourceKey
  pub sources : List Source
  pub paths : PathList

-- before the first source
abbrev pub no_table : Table
no_table = record { keys = []; sources = []; paths = no_paths }

-- the file of a row that is found
abbrev pub key_of : CoveringRows → SourceKey
key_of f = record { unit = f.unit; file = f.row.file }

-- a source is that of a file of a unit: it names one of the paths, or has a reason and no path
pub record IsSourceOf (t : Texts) (units : List KeptUnit) (paths : PathList) (key : SourceKey)
    (s : Source) : Type 0 where
  pub unit : KeptUnit
  pub there : slice_get units key.unit ≡ Some unit
  pub offset : s.unit ≡ unit.unit.offset
  pub path : (r : LineRow) → r.file ≡ key.file → source_path paths.bytes s ≡ unit_path t unit.unit r
  pub span : s.reason ≡ 0 → (path : List ℕ) × IsSpanOf paths.known s.first path
      × (s.size ≡ length path)
  pub empty : s.reason ≢ 0 → (s.first ≡ 0) × (s.size ≡ 0)

-- the sources of files that are found, each once, and their paths, each once, with no more bytes
-- than a limit
pub record AreSources (t : Texts) (units : List KeptUnit) (limit : ℕ) (table : Table)
    : Type 0 where
  pub count : length table.keys ≡ length table.sources
  pub few : length table.sources < 2 ^ 32
  pub each : (k : ℕ) (key : SourceKey) (s : Source) → slice_get table.keys k ≡ Some key
      → slice_get table.sources k ≡ Some s → IsSourceOf t units table.paths key s
  pub distinct : AllPairs (λ x y. x ≢ y) table.keys
  pub files : All (IsFoundFile units) table.keys
  pub paths : ArePaths limit table.paths
  pub found : All (IsFoundPath t units) table.paths.known

-- a table keeps what it has
pub record Keeps (old new : Table) : Type 0 where
  pub sources : GoesOn old.sources new.sources
  pub paths : GoesOn old.paths.bytes new.paths.bytes

-- why no more of what is found is taken in
abbrev pub IsTableFault : Texts → List KeptUnit → ℕ → MakeError → Type 0
IsTableFault t units limit LineTooLarge = (r : LineRow) × IsFoundRow units r × (2 ^ 32 ≤ r.line)
IsTableFault t units limit ColumnTooLarge = (r : LineRow) × IsFoundRow units r × (2 ^ 30 ≤ r.column)
IsTableFault t units limit TooManySources = HasManyFiles units
IsTableFault t units limit PathsTooLarge = HasLongPaths t units limit
IsTableFault t units limit OutOfMemory = Unit {0}
IsTableFault t units limit TooManyEntries = ⊥
IsTableFault t units limit TooManyStatements = ⊥
IsTableFault t units limit IdentityTooLarge = ⊥
IsTableFault t units limit NotAscending = ⊥

-- the places of lines by these sources and paths
abbrev pub with_table : Table → Contents
with_table table = record {
  address_size = 8;
  start_size = Four;
  base = 0;
  sources = table.sources;
  entries = [];
  statements = [];
  paths = table.paths.bytes;
  identity = [];
}

-- the place of a line, by the sources and paths of a table
abbrev pub place_in : Table → Option SourceLine → Option Place
place_in table place = option_and_then (line_place (with_table table)) place

-- the starts of entries, by the same
abbrev pub starts_in : Table → List Entry → List Start
starts_in table entries = map (entry_start (with_table table)) entries

-- a place is of a source of the table
abbrev pub IsInside : Table → Option SourceLine → Type 0
IsInside table place = IfSome place (λ l. l.source < length table.sources)

-- what the last of some entries says; nothing where there is none
abbrev pub last_said : List Entry → Option SourceLine
last_said entries =
    option_and_then (λ (e : Entry). e.place) (slice_get entries (length entries - 1))

-- two places name the same line and column of the same source, or both nothing
abbrev pub SayTheSame : List Source → Option SourceLine → Option SourceLine → Type 0
SayTheSame sources None None = Unit {0}
SayTheSame sources None (Some b) = ⊥
SayTheSame sources (Some a) None = ⊥
SayTheSame sources (Some a) (Some b) =
    (slice_get sources a.source ≡ slice_get sources b.source)
    × (a.line ≡ b.line) × (a.column ≡ b.column) × (a.is_stmt ≡ b.is_stmt)
    × (a.prologue_end ≡ b.prologue_end)

-- an entry was appended, or the last one says the same
abbrev pub IsPushed : List Source → List Entry → List Entry → Entry → Type 0
IsPushed sources old new entry =
    ((new ≡ old ++ entry ∷ []) × (SayTheSame sources (last_said old) entry.place → ⊥))
    ⊎ ((new ≡ old) × SayTheSame sources (last_said old) entry.place)

-- entries below an address, or all of them, say what is found at each address so far
pub record Entered (t : Texts) (units : List KeptUnit) (limit : ℕ) (table : Table)
    (entries : List Entry) (from : Option ℕ) : Type 0 where
  pub are : AreSources t units limit table
  pub inside : (k : ℕ) (e : Entry) → slice_get entries k ≡ Some e → IsInside table e.place
  pub below : (k : ℕ) (e : Entry) → slice_get entries k ≡ Some e → IsBefore e.address from
  pub ascending : EntriesAscend entries
  pub columns : All (λ e. HasColumn e.place) entries
  pub short : IsShort (starts_in table entries)
  pub says : (a : ℕ) → IsBefore a from
      → place_at a (starts_in table entries) ≡ found_place t units (found_at a units)
