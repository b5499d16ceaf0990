-- What is read back of a source that was converted and written, and why none of it is.
use Rattle.std.specs.Prelude.{◌⊎◌}
use Rattle.gimli_write.specs
use specs.Prelude
use Prelude.{ℕ, true, Bool, List, Option, Vec, Global, Address, File, FilesAtEnd, Built}
use Prelude.{ConvertError, StringTables, texts_in}
use specs.RoundTrip.{Answers, IsRoundTripRefusal}
use specs.convert.Conversion.{AnswersAs, ConvertsTo, IsConvertRefusal}
use specs.convert.Mapped.{CanBeFaithful, AreSourceRows, AreFilesReadAs, version_after}
use specs.convert.Moved.{CanBeMoved, AreMovedRows}
use specs.convert.Sources.{ToConvert}

-- files that are read back stand for those of the source, the ones that its program defines too
pub record AreSourceFiles (s : ToConvert) (file_ids : List ℕ) (a : Answers) : Type 0 where
  pub files : List File
  pub at_end : FilesAtEnd s.layout true s.header s.header.program files
  pub same : AreFilesReadAs s.sections s.header files (version_after s) file_ids a.directories
      a.files

-- what is read back of a source, where this function maps its addresses: its files; its rows, where
-- the conversion can be faithful; and where the function keeps the order of addresses in each
-- sequence, its rows at their new addresses
pub record IsSourceReadBack (convert_address : ℕ → Option Address) (s : ToConvert)
    (file_ids : List ℕ) (a : Answers) : Type 0 where
  pub files : AreSourceFiles s file_ids a
  pub rows : CanBeFaithful convert_address s → AreSourceRows s file_ids a.rows
  pub moved : CanBeMoved convert_address s
      → AreMovedRows convert_address s (version_after s) file_ids a.rows

-- the same by a map of which only a contract is known, where it answers as a function
abbrev pub ReadsBackSource : (ℕ → Option Address → Type 0) → ToConvert → List ℕ → Answers → Type 0
ReadsBackSource map s file_ids a =
    (g : ℕ → Option Address) → AnswersAs map g → IsSourceReadBack g s file_ids a

-- a source was converted, and its program isn't written or not read back; the texts of the tables
-- are those before the call
pub record IsRefusedAfter (map : ℕ → Option Address → Type 0) (s : ToConvert) (is_big : Bool)
    (texts : StringTables) (old new : List ℕ) (e : ConvertError) : Type 0 where
  pub answer : Built × Vec ℕ Global
  pub line_strings : List (List ℕ)
  pub converted : ConvertsTo map s texts.line_strings answer line_strings
  pub refused : IsRoundTripRefusal is_big answer.0.encoding answer.0
      (texts_in texts.strings line_strings) old new e

-- why a source isn't read back: it isn't converted, or its program is refused
abbrev pub IsSourceRefusal : (ℕ → Option Address → Type 0) → ToConvert → Bool → StringTables
    → List ℕ → List ℕ → ConvertError → Type 0
IsSourceRefusal map s is_big texts old new e =
    IsConvertRefusal map s texts.line_strings e ⊎ IsRefusedAfter map s is_big texts old new e
