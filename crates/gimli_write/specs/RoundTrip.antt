-- What is answered of a unit that was written and read again.
use Rattle.std.specs.Prelude.{◌≡◌, ◌^◌, ◌++◌}
use Rattle.gimli_write.specs
use specs.Prelude
use Prelude.{ℕ, List, length, map, slice_get, Option, Some, None, option_map, Result}
use Prelude.{Ok, Bool, OrderAndLimit, Encoding, Header, UnitEntry, ReadFile, Events, row, ReadRow}
use Prelude.{table_bytes, StringTables, bytes_in, Sections, IsText, IsOptionalText, OneByOne}
use Prelude.{IsUnit, directories_from_zero, Built, texts_after, HasFittingAddresses, program_rows}
use Prelude.{ConvertError, Read, Write, OutOfMemory}
use Rattle.gimli_line.specs.run.Sequences.{HasFirstFault}
use Rattle.gimli_bytes.specs.Hand.{plain}
use Rattle.gimli_bytes.specs.Written.{Appends}
use Rattle.gimli_bytes.specs.declared.error.Error.{Error}
use Rattle.gimli_build.specs.Tables.{File}
use Rattle.gimli_build.specs.Stored.{stored_details}
use Rattle.gimli_build.specs.Unit.{unit_bytes}
use Rattle.gimli_build.specs.Cause.{first_cause}
use Rattle.gimli_build.specs.WrittenTables.{HaveEmptySource}
use specs.declared.read_back.RoundTrip.{RoundTrip}
use specs.declared.read_back.RoundTripFile.{RoundTripFile}

-- ---- answers, as lists

-- a file, as it is answered
pub record FileAnswer : Type 0 where
  pub path : List ℕ
  pub directory_index : ℕ
  pub timestamp : ℕ
  pub size : ℕ
  pub md5 : List ℕ
  pub source : Option (List ℕ)

-- the file that a value of the code is
abbrev pub file_answer : RoundTripFile → FileAnswer
file_answer f = record {
  path = f.path.items;
  directory_index = f.directory_index;
  timestamp = f.timestamp;
  size = f.size;
  md5 = f.md5;
  source = option_map (λ text. text.items) f.source;
}

-- directories, files and rows, as they are answered
pub record Answers : Type 0 where
  pub directories : List (List ℕ)
  pub files : List FileAnswer
  pub rows : List ReadRow

-- those of a value of the code
abbrev pub answers : RoundTrip → Answers
answers r = record {
  directories = map (λ text. text.items) r.directories.items;
  files = map file_answer r.files.items;
  rows = r.rows.items;
}

-- ---- what they say

-- a file is answered: its texts, and what else is known of it
pub record IsFileAnswer (sections : Sections) (read : ReadFile) (answer : FileAnswer) : Type 0 where
  pub path : IsText sections read.path_name answer.path
  pub directory_index : answer.directory_index ≡ read.directory_index
  pub timestamp : answer.timestamp ≡ read.timestamp
  pub size : answer.size ≡ read.size
  pub md5 : answer.md5 ≡ read.md5
  pub source : IsOptionalText sections read.source answer.source

-- a header and its program are answered: the directories from index 0 on, the files, and the rows,
-- which are all that the program gives
pub record AreAnswers (layout : OrderAndLimit) (sections : Sections) (h : Header) (a : Answers)
    : Type 0 where
  pub directories : OneByOne (IsText sections) (directories_from_zero h) a.directories
  pub files : OneByOne (IsFileAnswer sections) h.files a.files
  pub rows : Events layout h h.program (map row a.rows)

-- the bytes are a unit and nothing else, and what is read of it is answered
pub record AnswersUnit (layout : OrderAndLimit) (unit_entry : UnitEntry) (sections : Sections)
    (unit : List ℕ) (a : Answers) : Type 0 where
  pub header : Header
  pub is_unit : IsUnit layout unit_entry unit header
  pub answered : AreAnswers layout sections header a

-- ---- how a program is read again

-- by a slice in the order of the section
abbrev pub slice_layout : Bool → OrderAndLimit
slice_layout is_big = record { is_big = is_big; limit = 2 ^ 64 }

-- with those of the program
abbrev pub unit_entry_of : Built → StringTables → UnitEntry
unit_entry_of p texts = record {
  address_size = p.encoding.address_size;
  directory = option_map (bytes_in texts) (slice_get p.directories 0);
  name = None;
}

-- beside the tables, each in an empty section
abbrev pub sections_of : StringTables → Sections
sections_of texts = record {
  strings = table_bytes texts.strings;
  line_strings = table_bytes texts.line_strings;
}

-- the bytes are a unit and nothing else, and what is read of it is answered, where it is read as a
-- program's unit is
abbrev pub AnswersProgram : Bool → Built → StringTables → List ℕ → RoundTrip → Type 0
AnswersProgram is_big p texts unit answer =
    AnswersUnit (slice_layout is_big) (unit_entry_of p texts) (sections_of texts) unit
    (answers answer)

-- ---- what was built

-- a built file, as it is answered with these tables
abbrev pub built_file : Built → StringTables → File → FileAnswer
built_file p texts f = record {
  path = bytes_in texts f.0.0;
  directory_index = f.0.1;
  timestamp = (stored_details p texts f.1).timestamp;
  size = (stored_details p texts f.1).size;
  md5 = (stored_details p texts f.1).md5;
  source = (stored_details p texts f.1).source;
}

-- rows are the rows and ends that were built, where the addresses fit
abbrev pub AreBuiltRows : Built → List ReadRow → Type 0
AreBuiltRows p rows = HasFittingAddresses p → rows ≡ program_rows p

-- what is answered is what was built, with these tables
pub record IsAsBuilt (p : Built) (texts : StringTables) (a : Answers) : Type 0 where
  pub directories : a.directories ≡ map (bytes_in texts) p.directories
  pub files : a.files ≡ map (built_file p texts) p.files
  pub rows : AreBuiltRows p a.rows

-- ---- a program is written and read again

-- in this order and for a unit of this encoding; the tables are those before it and after it, and
-- so are the bytes of the section
pub record IsRoundTrip (is_big : Bool) (encoding : Encoding) (p : Built)
    (texts texts_then : StringTables) (old new : List ℕ) (answer : RoundTrip)
    : Type 0 where
  -- no cause forbids to write it, and its unit was appended
  pub no_cause : first_cause is_big encoding p texts ≡ None
  pub unit : Appends (unit_bytes plain is_big encoding p texts) old new
  pub offset : answer.offset.0 ≡ length old
  pub tables : HaveEmptySource p texts texts_then
  -- what is read is what the appended unit says, and what was built
  pub read : (unit : List ℕ) × (new ≡ old ++ unit)
      × AnswersProgram is_big p texts_then unit answer
  pub built : IsAsBuilt p texts_then (answers answer)

-- ---- refusals

-- why the rows of a program aren't answered: its first fault, or `OutOfMemory`
abbrev pub IsRunRefusal : OrderAndLimit → Header → ConvertError → Type 0
IsRunRefusal layout h OutOfMemory = Unit {0}
IsRunRefusal layout h (Read fault) = HasFirstFault layout h fault
IsRunRefusal layout h e = ⊥

-- the bytes are a unit and nothing else, and why its rows aren't answered
abbrev pub RefusesUnit : OrderAndLimit → UnitEntry → List ℕ → ConvertError → Type 0
RefusesUnit layout unit_entry unit e =
    (h : Header) × IsUnit layout unit_entry unit h × IsRunRefusal layout h e

-- what is to be written of a program, and the cause why it can't be, if there is one
pub record ToWrite : Type 0 where
  pub cause : Option Error
  pub bytes : Result (List ℕ) Error

-- no cause forbids it, and its bytes, which are this unit, were appended
pub record WasWritten (wanted : ToWrite) (old new unit : List ℕ) : Type 0 where
  pub no_cause : wanted.cause ≡ None
  pub bytes : wanted.bytes ≡ Ok unit
  pub appended : new ≡ old ++ unit

-- why a program isn't written or not read again: the cause why it can't be written, if there is
-- one; where there is none, the first fault of its unit, which was appended, and which no program
-- has whose addresses fit; or `OutOfMemory`
abbrev pub IsRefusal : Bool → Built → ToWrite → UnitEntry → List ℕ → List ℕ → ConvertError → Type 0
IsRefusal is_big p wanted unit_entry old new OutOfMemory = Unit {0}
IsRefusal is_big p wanted unit_entry old new (Write e) = wanted.cause ≡ Some e
IsRefusal is_big p wanted unit_entry old new (Read fault) =
    (unit : List ℕ) × WasWritten wanted old new unit
    × RefusesUnit (slice_layout is_big) unit_entry unit (Read fault) × ¬ HasFittingAddresses p
IsRefusal is_big p wanted unit_entry old new e = ⊥

-- what is to be written of a program in this order and for a unit of this encoding, with these
-- tables
abbrev pub to_write : Bool → Encoding → Built → StringTables → ToWrite
to_write is_big encoding p texts = record {
  cause = first_cause is_big encoding p texts;
  bytes = unit_bytes plain is_big encoding p texts;
}

-- why a program isn't written in this order and for a unit of this encoding, with these tables, or
-- not read again beside what is then in them
abbrev pub IsRoundTripRefusal : Bool → Encoding → Built → StringTables → List ℕ → List ℕ
    → ConvertError → Type 0
IsRoundTripRefusal is_big encoding p texts old new =
    IsRefusal is_big p (to_write is_big encoding p texts)
    (unit_entry_of p (texts_after p texts)) old new

-- why a program isn't written: the cause why it can't be, if there is one, or `OutOfMemory`
abbrev pub IsCausedRefusal : Option Error → ConvertError → Type 0
IsCausedRefusal cause OutOfMemory = Unit {0}
IsCausedRefusal cause (Write e) = cause ≡ Some e
IsCausedRefusal cause e = ⊥
