-- A conversion that was done, and what is read back of it.
use Rattle.gimli_write.specs
use specs.Prelude
use Prelude.{ℕ, true, List, map, Option, Ok, OrderAndLimit, Address, StringTables, texts_in}
use Prelude.{ReadRow, UnitEntry, File, Events, row, FilesAtEnd, Built, bytes_in, ReadsBack}
use Prelude.{Sections, OneByOne, texts_after}
use specs.RoundTrip.{built_file}
use specs.convert.Conversion.{IsConverted}
use specs.convert.Outcome.{Outcome}
use specs.convert.Mapped.{CanBeFaithful, IsReadAs, AreFilesReadAs}
use specs.convert.Moved.{CanBeMoved, AreMovedRows, CanBeShifted}
use specs.convert.Sources.{ToConvert}

-- a conversion that was done: the map of addresses, the source, the line strings before it, and
-- what came of it
pub record DoneConversion : Type 0 where
  pub convert_address : ℕ → Option Address
  pub source : ToConvert
  pub line_strings : List (List ℕ)
  pub outcome : Outcome
  pub is : IsConverted convert_address source line_strings (Ok outcome)

-- what was asked holds, so that it is faithful
abbrev pub IsToBeFaithful : DoneConversion → Type 0
IsToBeFaithful d = CanBeFaithful d.convert_address d.source

-- ---- rows

-- its source gives these rows and no fault
abbrev pub SourceGives : DoneConversion → List ReadRow → Type 0
SourceGives d rows = Events d.source.layout d.source.header d.source.header.program (map row rows)

-- rows that are read back of it say what rows of its source say, one by one
abbrev pub AreReadAs : DoneConversion → List ReadRow → List ReadRow → Type 0
AreReadAs d =
    OneByOne (IsReadAs d.source.header.parameters.encoding.version
    d.outcome.program.encoding.version d.outcome.file_ids)

-- a unit of a program that is read back, with the tables after it was written
pub record UnitReadBack (p : Built) : Type 0 where
  pub layout : OrderAndLimit
  pub unit_entry : UnitEntry
  pub sections : Sections
  pub texts : StringTables
  pub bytes : List ℕ
  pub back : ReadsBack layout unit_entry sections p texts bytes

-- it gives these rows and no fault
abbrev pub UnitGives : {p : Built} → UnitReadBack p → List ReadRow → Type 0
UnitGives unit rows = Events unit.layout unit.back.header unit.back.header.program (map row rows)

-- it gives rows that say what these rows of the source of a conversion say
abbrev pub GivesBack : (d : DoneConversion) → List ReadRow → UnitReadBack d.outcome.program → Type 0
GivesBack d rows unit = (found : List ReadRow) × UnitGives unit found × AreReadAs d rows found

-- ---- rows that are moved

-- what was asked holds, so that it moves the rows of its source
abbrev pub IsToBeMoved : DoneConversion → Type 0
IsToBeMoved d = CanBeMoved d.convert_address d.source

-- rows that are read back of it are those of its source, each at its new address
abbrev pub AreMoved : DoneConversion → List ReadRow → Type 0
AreMoved d =
    AreMovedRows d.convert_address d.source d.outcome.program.encoding.version d.outcome.file_ids

-- a unit gives such rows
abbrev pub GivesMoved : (d : DoneConversion) → UnitReadBack d.outcome.program → Type 0
GivesMoved d unit = (found : List ReadRow) × UnitGives unit found × AreMoved d found

-- what was asked holds, so that it moves all rows of its source by so many bytes
abbrev pub IsToBeShifted : ℕ → DoneConversion → Type 0
IsToBeShifted n d = CanBeShifted n d.convert_address d.source

-- ---- files

-- the files of its source where the program ends
abbrev pub SourceFilesAre : DoneConversion → List File → Type 0
SourceFilesAre d files =
    FilesAtEnd d.source.layout true d.source.header d.source.header.program files

-- each of these files has an id, which is the index of the file that is read back in its place,
-- with the same paths, and with what is known of it
abbrev pub AreFilesReadBack : DoneConversion → List (List ℕ) → List File → Type 0
AreFilesReadBack d strings files =
    let p = d.outcome.program in
    let texts =
    texts_in strings (texts_after p (texts_in strings d.outcome.line_strings)).line_strings in
    AreFilesReadAs d.source.sections d.source.header files p.encoding.version d.outcome.file_ids
    (map (bytes_in texts) p.directories) (map (built_file p texts) p.files)
