-- A conversion, as far as it got, and what it has still to read.
use Rattle.std.specs.Prelude.{◌≡◌, ◌⊎◌}
use Rattle.gimli_write.specs
use specs.Prelude
use Prelude.{ℕ, true, List, Option, Some, None, Result, Ok, Err, IfErr, OnOk, MatchResult, Vec}
use Prelude.{Global, Address, Built, previous_position, CanBuild, CanWrite, LineRow, Row, Sections}
use Prelude.{texts_in}
use Prelude.{ConvertError, OutOfMemory, UnsupportedLineInstruction, SourceRow, ConvertLineRow}
use specs.convert.SourceTables.{SourceTables, TablesAndTexts, tables_with}
use specs.convert.Items.{
  Reading,
  ends,
  stops,
  offers,
  address_offered,
  row_or_end_offered,
  defines_first,
  after_definitions,
  ReadsItems,
}
use specs.convert.SourceRun.{SourceRun, start_of_source, reading_left}
use specs.convert.Outcome.{Outcome, outcome_of, ComesTo, without_items}
use specs.convert.Preparation.{tables_of_header}
use specs.convert.Sources.{ToConvert}
use specs.convert.Texts.{IsRefusedBy}

-- how far a conversion got
pub record Conversion : Type 0 where
  pub sections : Sections
  pub source : SourceRun
  -- the program that is built, and where it has the directories and files of its source
  pub tables : SourceTables
  -- an address that is handed out next
  pub address : Option ℕ
  -- a row of the source that is handed out after it, whose own set address was handed out
  pub held : Option SourceRow
  -- the refusal of an earlier read
  pub failed : Option ConvertError

-- nothing is read yet
abbrev pub start_of_conversion : Sections → SourceRun → SourceTables → Conversion
start_of_conversion sections source tables = record {
  sections = sections;
  source = source;
  tables = tables;
  address = None;
  held = None;
  failed = None;
}

-- how far a conversion got, with the texts of the line strings that it is lent
pub record Progress : Type 0 where
  pub conversion : Conversion
  pub line_strings : List (List ℕ)

-- a conversion beside these line strings
abbrev pub beside : List (List ℕ) → Conversion → Progress
beside line_strings c = record { conversion = c; line_strings = line_strings }

-- the program that was built so far
abbrev pub built_so_far : Progress → Built
built_so_far p = p.conversion.tables.program

-- a program can be written, whatever the table of strings is, which it names no text of
pub record IsWritable (p : Built) (line_strings : List (List ℕ)) : Type 0 where
  pub can : (strings : List (List ℕ)) → CanWrite p (texts_in strings line_strings)

-- so can the program that a conversion has built so far
abbrev pub HasWritable : Progress → Type 0
HasWritable p = IsWritable (built_so_far p) p.line_strings

-- ---- what is still to be read

-- the tables of a reading, which doesn't depend on what was built meanwhile
abbrev pub without_built : TablesAndTexts → TablesAndTexts
without_built tables = record tables { program = without_items tables.program }

-- those of a conversion, with these line strings
abbrev pub tables_of : Conversion → List (List ℕ) → TablesAndTexts
tables_of c line_strings = without_built (tables_with line_strings c.tables)

-- the version of its source
abbrev pub version_of_source : Conversion → ℕ
version_of_source c = c.source.header.parameters.encoding.version

-- what is read after a row that is held back: that row first
abbrev pub after_held : ℕ → TablesAndTexts → Option SourceRow → Reading → Reading
after_held version tables (Some r) rest = row_or_end_offered version tables r rest
after_held version tables None rest = rest

-- after a refusal, that refusal
abbrev pub unless_failed : Option ConvertError → Reading → Reading
unless_failed (Some e) rest = stops e
unless_failed None rest = rest

-- what the source still has, with these line strings
abbrev pub source_left : Conversion → List (List ℕ) → Reading
source_left c line_strings = reading_left c.sections c.source (tables_of c line_strings)

-- what is still to be read, where the line strings are these
abbrev pub still_to_read : Conversion → List (List ℕ) → Reading
still_to_read c line_strings =
    let tables = tables_of c line_strings in
    unless_failed c.failed (address_offered c.address tables
    (after_held (version_of_source c) tables c.held (source_left c line_strings)))

-- the same of one that got so far
abbrev pub reading_of : Progress → Reading
reading_of p = still_to_read p.conversion p.line_strings

-- ---- reads

-- a read hands this out, after the files that are defined before it, and finds these tables; the
-- rest is then still to be read
abbrev pub HandsOut : Reading → Option ConvertLineRow → TablesAndTexts → Reading → Type 0
HandsOut old (Some row) tables rest = after_definitions old ≡ offers row tables rest
HandsOut old None tables rest = (after_definitions old ≡ ends tables) × (rest ≡ ends tables)

-- a read is refused: as what was to be read is, after the files that are defined before it, or for
-- `OutOfMemory` where a file is defined before anything else is read
abbrev pub IsReadRefusal : Reading → ConvertError → Type 0
IsReadRefusal old e =
    (after_definitions old ≡ stops e) ⊎ ((e ≡ OutOfMemory) × (defines_first old ≡ true))

-- a read adds files to the program, and changes nothing else in it
abbrev pub AddsFiles : Built → Built → Type 0
AddsFiles old new = new ≡ record old { files = new.files }

-- ---- calls of the builder

-- this row can be built after those of the program
abbrev pub CanBuildRow : Built → LineRow → Type 0
CanBuildRow p row = CanBuild p.line_encoding (previous_position p.items) (Row row)

-- a call asks this: it holds where the call isn't refused; else it doesn't hold, or memory is
-- missing
pub record Asks {A : Type 0} (asked : Type 0) (result : Result A ConvertError) : Type 0 where
  pub holds : OnOk result asked
  pub refusal : IfErr result (λ e.
      ((e ≡ OutOfMemory) × asked) ⊎ ((e ≡ UnsupportedLineInstruction) × ¬ asked))

-- the same conversion with another program
abbrev pub with_program : Built → Conversion → Conversion
with_program p c = record c { tables = record c.tables { program = p } }

-- ---- a conversion from its start on

-- the directories and files of a source are added, by the steps of its header; these are the line
-- strings before it
abbrev pub IsPrepared : ToConvert → List (List ℕ) → Progress → Type 0
IsPrepared s old new =
    tables_of_header s.sections s.header s.given old
    ≡ Ok (tables_with new.line_strings new.conversion.tables)

-- why they aren't added: what refuses a step, or `OutOfMemory`
abbrev pub IsHeaderRefusal : ToConvert → List (List ℕ) → ConvertError → Type 0
IsHeaderRefusal s line_strings =
    IsRefusedBy (tables_of_header s.sections s.header s.given line_strings)

-- a conversion of a source is begun, which had these line strings
pub record IsBegun (s : ToConvert) (old : List (List ℕ)) (new : Progress) : Type 0 where
  -- its directories and files are added
  pub prepared : IsPrepared s old new
  -- all that its program gives is still to be read, with these tables at its start
  pub reads : ReadsItems s.layout s.sections s.header
      (tables_with new.line_strings new.conversion.tables) s.header.program (reading_of new)
  -- nothing of it was read
  pub unread : new.conversion
      ≡ start_of_conversion s.sections
      (start_of_source s.header (record { bytes = s.header.program; layout = s.layout }))
      new.conversion.tables
  -- its program can be written
  pub writable : HasWritable new

-- what comes of a source, where nothing is built before: the refusal of a step of its header, else
-- what comes of reading its program
abbrev pub IsConverted : (ℕ → Option Address) → ToConvert → List (List ℕ)
    → Result Outcome ConvertError → Type 0
IsConverted convert_address s line_strings outcome =
    (reading : Reading) × MatchResult (tables_of_header s.sections s.header s.given line_strings)
    (λ first. ReadsItems s.layout s.sections s.header first s.header.program reading
    × (outcome_of convert_address reading first.program ≡ outcome)) (λ e. outcome ≡ Err e)

-- ---- reads, from one state to the next

-- a read hands this out, and leaves what is still to be read after it
abbrev pub GivesNext : Progress → Option ConvertLineRow → Progress → Type 0
GivesNext old row new =
    HandsOut (reading_of old) row (tables_of new.conversion new.line_strings) (reading_of new)

-- ---- with a map of addresses that is handed in

-- whatever the map may return for an address is what this function gives for it
abbrev pub AnswersAs : (ℕ → Option Address → Type 0) → (ℕ → Option Address) → Type 0
AnswersAs map convert_address = (a : ℕ) (r : Option Address) → map a r → r ≡ convert_address a

-- what was answered of a conversion, and the line strings after it
abbrev pub outcome_with : Built × Vec ℕ Global → List (List ℕ) → Outcome
outcome_with answer line_strings = record {
  program = answer.0;
  file_ids = answer.1.items;
  line_strings = line_strings;
}

-- what can come of all that is still to be read
abbrev pub RestComesTo : (ℕ → Option Address → Type 0) → Progress → Result Outcome ConvertError
    → Type 0
RestComesTo map p = ComesTo map (reading_of p) (built_so_far p)

-- what comes of it where the map's answers are those of a function
abbrev pub outcome_of_rest : (ℕ → Option Address) → Progress → Result Outcome ConvertError
outcome_of_rest convert_address p = outcome_of convert_address (reading_of p) (built_so_far p)

-- what can come of a source, where nothing is built before: the refusal of a step of its header,
-- else what can come of reading its program
abbrev pub SourceComesTo : (ℕ → Option Address → Type 0) → ToConvert → List (List ℕ)
    → Result Outcome ConvertError → Type 0
SourceComesTo map s line_strings outcome =
    (reading : Reading) × MatchResult (tables_of_header s.sections s.header s.given line_strings)
    (λ first. ReadsItems s.layout s.sections s.header first s.header.program reading
    × ComesTo map reading first.program outcome) (λ e. outcome ≡ Err e)

-- by a map that answers as a function a source is converted to this answer; the old line strings
-- are those before it, the new ones those after it
abbrev pub ConvertsTo : (ℕ → Option Address → Type 0) → ToConvert → List (List ℕ)
    → Built × Vec ℕ Global → List (List ℕ) → Type 0
ConvertsTo map s old answer new =
    (g : ℕ → Option Address) → AnswersAs map g → IsConverted g s old (Ok (outcome_with answer new))

module _ (map : ℕ → Option Address → Type 0) where
  -- why a source isn't converted: what refuses it, or `OutOfMemory`
  pub record IsConvertRefusal (s : ToConvert) (line_strings : List (List ℕ)) (e : ConvertError)
      : Type 0 where
    -- by what the map answers
    pub answers : (e ≡ OutOfMemory) ⊎ SourceComesTo map s line_strings (Err e)
    -- as a function says, if it answers as one
    pub as_function : (g : ℕ → Option Address) → AnswersAs map g
        → (e ≡ OutOfMemory) ⊎ IsConverted g s line_strings (Err e)

  -- all that is still to be read is converted to this answer
  pub record RestConvertsTo (old : Progress) (answer : Built × Vec ℕ Global) (new : List (List ℕ))
      : Type 0 where
    pub answers : RestComesTo map old (Ok (outcome_with answer new))
    pub as_function : (g : ℕ → Option Address) → AnswersAs map g
        → outcome_of_rest g old ≡ Ok (outcome_with answer new)

  -- why it isn't: what refuses it, or `OutOfMemory`
  pub record IsRestRefusal (old : Progress) (e : ConvertError) : Type 0 where
    pub answers : (e ≡ OutOfMemory) ⊎ RestComesTo map old (Err e)
    pub as_function : (g : ℕ → Option Address) → AnswersAs map g
        → IsRefusedBy (outcome_of_rest g old) e
