-- Why no index is made of a lookup, memory aside.
use Rattle.std.specs.Prelude.{◌≡◌, ◌≢◌, ◌≤◌, ◌<◌, ◌^◌, ℕ, List, flat_map, length, min, Some, Ok}
use Rattle.std.specs.Prelude.{All}
use Rattle.std.specs.Prelude.{slice_get, AllPairs}
use Rattle.gimli_line.specs.declared.run.row.LineRow.{LineRow}
use Rattle.gimli_lookup.specs.Section.{KeptUnit, all_sequences}
use Rattle.gimli_lookup.specs.declared.section_lookup.CoveringRows.{CoveringRows}
use Rattle.gimli_index.specs.Found.{Given, code_of, found_place, SayWhatIsFound}
use Rattle.gimli_lookup.specs.ProgramPaths.{Texts}
use Rattle.gimli_index.specs.Meaning.{AreAscending, Place, Start}
use Rattle.gimli_index.specs.Short.{IsShort, joined}
use Rattle.gimli_index.specs.declared.error.MakeError.{MakeError}
use Rattle.gimli_index.specs.declared.error.MakeError.TheVariants.{NotAscending, TooManyEntries}
use Rattle.gimli_index.specs.declared.error.MakeError.TheVariants.{TooManyStatements}
use Rattle.gimli_index.specs.declared.error.MakeError.TheVariants.{TooManySources, PathsTooLarge}
use Rattle.gimli_index.specs.declared.error.MakeError.TheVariants.{IdentityTooLarge, LineTooLarge}
use Rattle.gimli_index.specs.declared.error.MakeError.TheVariants.{ColumnTooLarge, OutOfMemory}
use Rattle.gimli_index.specs.declared.source_keys.SourceKey.{SourceKey}

-- a row stands in a sequence of its unit, and isn't its end row
pub record AreFound (units : List KeptUnit) (f : CoveringRows) : Type 0 where
  pub unit : KeptUnit
  pub there : slice_get units f.unit ≡ Some unit
  pub rows : List LineRow
  pub sequence : ℕ
  pub is_sequence : slice_get unit.sequences sequence ≡ Some rows
  pub index : ℕ
  pub stands : slice_get (code_of rows) index ≡ Some f.row

-- a row of some sequence
abbrev pub IsFoundRow : List KeptUnit → LineRow → Type 0
IsFoundRow units r = (f : CoveringRows) × AreFound units f × (f.row ≡ r)

-- a file of a unit, by the index of the unit: one of a row of some sequence
abbrev pub IsFoundFile : List KeptUnit → SourceKey → Type 0
IsFoundFile units key =
    (f : CoveringRows) × AreFound units f × (f.unit ≡ key.unit) × (f.row.file ≡ key.file)

-- the path of a row of some sequence
abbrev pub IsFoundPath : Texts → List KeptUnit → List ℕ → Type 0
IsFoundPath t units path =
    (f : CoveringRows) × AreFound units f × (place : Place)
    × (found_place t units (Some f) ≡ Some place) × (place.path ≡ Ok path)

-- there are files of rows, no two of them the same, whose number 32 bits don't hold
pub record HasManyFiles (units : List KeptUnit) : Type 0 where
  pub files : List SourceKey
  pub found : All (IsFoundFile units) files
  pub distinct : AllPairs (λ x y. x ≢ y) files
  pub many : 2 ^ 32 ≤ length files

-- there are paths of rows, no two of them the same, of more bytes than a limit, or than 32 bits
-- count, each with its zero byte
pub record HasLongPaths (t : Texts) (units : List KeptUnit) (limit : ℕ) : Type 0 where
  pub paths : List (List ℕ)
  pub found : All (IsFoundPath t units) paths
  pub distinct : AllPairs (λ x y. x ≢ y) paths
  pub long : min limit 0xffff_ffff < length (joined paths)

-- starts that say what is found, no two side by side the same, are more than 32 bits count
pub record HasManyStarts (t : Texts) (units : List KeptUnit) : Type 0 where
  pub starts : List Start
  pub ascending : AreAscending starts
  pub says : SayWhatIsFound t units starts
  pub short : IsShort starts
  pub many : 2 ^ 32 ≤ length starts

-- why an index isn't made, whose paths may have so many bytes in all
abbrev pub IsIndexFault : Given → ℕ → MakeError → Type 0
IsIndexFault given limit LineTooLarge =
    (r : LineRow) × IsFoundRow given.units r × (2 ^ 32 ≤ r.line)
IsIndexFault given limit ColumnTooLarge =
    (r : LineRow) × IsFoundRow given.units r × (2 ^ 30 ≤ r.column)
IsIndexFault given limit TooManySources = HasManyFiles given.units
IsIndexFault given limit PathsTooLarge = HasLongPaths given.texts given.units limit
IsIndexFault given limit TooManyEntries = HasManyStarts given.texts given.units
IsIndexFault given limit TooManyStatements =
    2 ^ 32 ≤ length (flat_map (λ rows. rows) (all_sequences given.units))
IsIndexFault given limit IdentityTooLarge = 2 ^ 32 ≤ length given.name
IsIndexFault given limit NotAscending = ⊥
IsIndexFault given limit OutOfMemory = Unit {0}
