-- What a lookup finds at an address, and where it says that the code of a line begins, as an index
-- says it.
use Rattle.std.specs.Prelude.{◌≡◌, ◌≤◌, ◌++◌, ℕ, Bool, false, List, [], ◌∷◌, length, drop, map}
use Rattle.std.specs.Prelude.{flat_map, slice_get, if◌then◌else◌, Option, None, Some, Result, Ok}
use Rattle.std.specs.Prelude.{Err}
use Rattle.std.specs.Prelude.{All}
use Rattle.std.specs.List.{Contains}
use Rattle.std.specs.Option.{option_map, option_map_or}
use Rattle.std.specs.Str.{bytes_eq}
use Rattle.gimli_index.specs.Contents.{Contents, Fits, entry_start, index_bytes, statement_in}
use Rattle.gimli_index.specs.Files.{File, files_of, source_file}
use Rattle.gimli_index.specs.Lines.{addresses_of, is_named}
use Rattle.gimli_index.specs.Made.{EntriesAscend, HasOrder}
use Rattle.gimli_index.specs.Meaning.{Place, Start, Statement, AreAscending, place_at, starts_of}
use Rattle.gimli_index.specs.Meaning.{statements_of}
use Rattle.gimli_index.specs.Named.{AreNamed, HasNamed}
use Rattle.gimli_index.specs.Order.{IsOrdered}
use Rattle.gimli_index.specs.Parts.{Index, index_at}
use Rattle.gimli_index.specs.Short.{HasPathsOnce, IsShort}
use Rattle.gimli_index.specs.declared.place.NoPath.{NoPath}
use Rattle.gimli_index.specs.declared.place.NoPath.TheVariants.{Reason}
use Rattle.gimli_line.specs.declared.run.row.LineRow.{LineRow}
use Rattle.gimli_lookup.specs.Paths.{row_path}
use Rattle.gimli_lookup.specs.ProgramPaths.{Texts, unit_paths}
use Rattle.gimli_lookup.specs.Section.{KeptHeader, KeptUnit, ListedUnit, found_at}
use Rattle.gimli_lookup.specs.Statements.{addresses_in, ascending_once}
use Rattle.gimli_lookup.specs.declared.path_error.PathError.{PathError}
use Rattle.gimli_lookup.specs.declared.path_error.PathError.TheVariants.{
  UnsupportedStringIndex,
  UnsupportedSupplementaryString,
  StringOffsetOutOfBounds,
  UnterminatedString,
  ExpectedStringAttributeValue,
  InvalidDirectoryIndex,
  InvalidFileIndex,
  OutOfMemory,
}
use Rattle.gimli_lookup.specs.declared.section_lookup.CoveringRows.{CoveringRows}

-- ---- paths

-- the number of the reason why a path can't be told (docs/reference/INDEX.md, "Sources"). Missing
-- memory is none: then nothing is made
abbrev pub reason_of : PathError → ℕ
reason_of UnsupportedStringIndex = 1
reason_of UnsupportedSupplementaryString = 2
reason_of StringOffsetOutOfBounds = 3
reason_of UnterminatedString = 4
reason_of ExpectedStringAttributeValue = 5
reason_of (InvalidDirectoryIndex index) = 6
reason_of (InvalidFileIndex index) = 7
reason_of OutOfMemory = 0

-- a path, or the number of the reason why there is none
abbrev pub path_said : Result (List ℕ) PathError → Result (List ℕ) NoPath
path_said (Ok path) = Ok path
path_said (Err e) = Err (Reason (reason_of e))

-- the path of a row's file; the reason 8 where the header of the unit isn't known
abbrev pub path_by : Texts → ℕ → Option KeptHeader → LineRow → Result (List ℕ) NoPath
path_by t offset header r =
    option_map_or (λ (h : KeptHeader). path_said (row_path (unit_paths t offset h.meaning) r))
    header (Err (Reason 8))

-- the path of a row's file in a unit
abbrev pub unit_path : Texts → ListedUnit → LineRow → Result (List ℕ) NoPath
unit_path t u r = path_by t u.offset u.header r

-- ---- places

-- the place that a row of a unit stands for
abbrev pub row_place : Texts → ListedUnit → LineRow → Place
row_place t u r = record {
  path = unit_path t u r;
  line = r.line;
  column = r.column;
  is_stmt = r.is_stmt;
  prologue_end = r.prologue_end;
  unit = u.offset;
}

-- the place of what is found in units
abbrev pub found_place : Texts → List KeptUnit → Option CoveringRows → Option Place
found_place t units None = None
found_place t units (Some f) =
    option_map (λ (u : KeptUnit). row_place t u.unit f.row) (slice_get units f.unit)

-- what starts say of each address is what is found there
abbrev pub SayWhatIsFound : Texts → List KeptUnit → List Start → Type 0
SayWhatIsFound t units starts = (a : ℕ) → place_at a starts ≡ found_place t units (found_at a units)

-- ---- lines

-- a row of a file, of which nothing else is said
abbrev pub row_of_file : ℕ → LineRow
row_of_file file = record {
  tombstone = false;
  address = 0;
  op_index = 0;
  file = file;
  line = 0;
  column = 0;
  is_stmt = false;
  basic_block = false;
  end_sequence = false;
  prologue_end = false;
  epilogue_begin = false;
  isa = 0;
  discriminator = 0;
}

-- the path of the file of a number in a unit
abbrev pub file_path : Texts → ListedUnit → ℕ → Result (List ℕ) NoPath
file_path t u file = unit_path t u (row_of_file file)

-- whether two files are of one path
abbrev pub is_one_path : Result (List ℕ) NoPath → Result (List ℕ) NoPath → Bool
is_one_path (Ok path) (Ok other) = bytes_eq path other
is_one_path (Ok path) (Err e) = false
is_one_path (Err e) other = false

-- whether two numbers of files of a unit are of one path
abbrev pub is_one_file : Texts → ListedUnit → ℕ → ℕ → Bool
is_one_file t u file other = is_one_path (file_path t u file) (file_path t u other)

-- the addresses of a line in the rows of a sequence: of each file that a path names, those that
-- `SectionLookup::addresses_of_files` gives of the files of that file's path
abbrev pub sequence_addresses : Texts → List ℕ → ListedUnit → ℕ → List LineRow → List ℕ
sequence_addresses t path u line rows =
    flat_map (λ (r : LineRow). if is_named path (file_path t u r.file)
    then addresses_in (is_one_file t u r.file) line rows else []) rows

-- those in all sequences of units
abbrev pub lookup_addresses : Texts → List ℕ → List KeptUnit → ℕ → List ℕ
lookup_addresses t path units line =
    flat_map (λ (u : KeptUnit). flat_map (sequence_addresses t path u.unit line) u.sequences) units

-- the addresses that statements give of each line of a path are those of the lookup: in ascending
-- order, each once
abbrev pub SayWhereLinesBegin : Texts → List KeptUnit → List Statement → Type 0
SayWhereLinesBegin t units statements =
    (path : List ℕ) (line : ℕ) → addresses_of path statements line
    ≡ ascending_once (lookup_addresses t path units line)

-- ---- files

-- rows without an end row at their end
abbrev pub code_of : List LineRow → List LineRow
code_of [] = []
code_of (r ∷ []) = if r.end_sequence then [] else r ∷ []
code_of (r ∷ next ∷ rows) = r ∷ code_of (next ∷ rows)

-- a file is that of a row of a sequence, but of its end row
abbrev pub IsFileOfRow : Texts → List KeptUnit → File → Type 0
IsFileOfRow t units file =
    (u : KeptUnit) × Contains units u × (rows : List LineRow) × Contains u.sequences rows
    × (r : LineRow) × Contains (code_of rows) r
    × (file ≡ record { unit = u.unit.offset; path = unit_path t u.unit r })

-- ---- the index of a lookup

-- what an index is made of: texts, units, the bytes of an address, and what it is named by
pub record Given : Type 0 where
  pub texts : Texts
  pub units : List KeptUnit
  pub size : ℕ
  pub name : List ℕ

-- the same, of these four
abbrev pub given_by : Texts → List KeptUnit → ℕ → List ℕ → Given
given_by texts units size name =
    record { texts = texts; units = units; size = size; name = name }

-- contents that say of each address what is found there, and nothing twice, and of each line where
-- its code begins; their sources are files of rows, and an entry or a statement names each
pub record AreContentsOf (given : Given) (c : Contents) : Type 0 where
  pub fits : Fits c
  pub ascending : EntriesAscend c.entries
  pub ordered : HasOrder c
  pub says : SayWhatIsFound given.texts given.units (map (entry_start c) c.entries)
  pub lines : SayWhereLinesBegin given.texts given.units (map (statement_in c) c.statements)
  pub files : All (IsFileOfRow given.texts given.units) (map (source_file c) c.sources)
  pub named : HasNamed c
  pub short : IsShort (map (entry_start c) c.entries)
  pub paths_once : HasPathsOnce c
  pub address_size : c.address_size ≡ given.size
  pub identity : c.identity ≡ given.name

-- the bytes of such contents were appended, whose paths have no more bytes than a limit
pub record IsAppended (given : Given) (limit : ℕ) (old new : List ℕ) : Type 0 where
  pub contents : Contents
  pub within : length contents.paths ≤ limit
  pub bytes : new ≡ old ++ index_bytes contents
  pub are : AreContentsOf given contents

-- bytes begin with an index that says of each address what is found there, and nothing twice, and
-- of each line where its code begins; its sources are files of rows, and an entry or a statement
-- names each
pub record IsIndexOf (given : Given) (bytes : List ℕ) : Type 0 where
  pub index : Index
  pub is_read : index_at bytes ≡ Ok index
  pub ascending : AreAscending (starts_of index)
  pub ordered : IsOrdered index
  pub says : SayWhatIsFound given.texts given.units (starts_of index)
  pub lines : SayWhereLinesBegin given.texts given.units (statements_of index)
  pub files : All (IsFileOfRow given.texts given.units) (files_of index)
  pub named : AreNamed index
  pub short : IsShort (starts_of index)
  pub address_size : index.address_size ≡ given.size
  pub identity : index.identity ≡ given.name

-- what was appended, whatever follows it, is such an index
abbrev pub IsIndexAppended : Given → List ℕ → List ℕ → Type 0
IsIndexAppended given old new = (rest : List ℕ) → IsIndexOf given (drop (length old) new ++ rest)
