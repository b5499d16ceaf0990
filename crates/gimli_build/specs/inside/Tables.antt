-- The directories and the files of a line program, as they are written.
use Rattle.std.specs.Prelude.{◌≡◌, ◌<◌, ◌^◌}
use Rattle.gimli_build.specs
use specs.Prelude.{ℕ, List, Bool, length, flat_map, IsTrue, IfSome, StringTables}
use Rattle.gimli_core.specs.declared.constants.DwForm.{DwForm}
use Rattle.gimli_core.specs.declared.constants.DwLnct.{DwLnct}
use specs.LineText.{LineText, IsWithin, HasNoZero}
use specs.Tables.{Details, File}
use specs.Joined.{when}

-- 64 bits hold the numbers of a file, and a digest has sixteen bytes, as in any program
pub record FitsFile (f : File) : Type 0 where
  pub directory : f.0.1 < 2 ^ 64
  pub timestamp : f.1.timestamp < 2 ^ 64
  pub size : f.1.size < 2 ^ 64
  pub md5 : length f.1.md5 ≡ 16

-- what `write` requires of a file: its path and its source are in these tables, and a source that
-- is written has no zero byte
pub record IsFileWritable (writes_sources : Bool) (texts : StringTables) (name : LineText)
    (known : Details) : Type 0 where
  pub path : IsWithin texts name
  pub source : IfSome known.source (IsWithin texts)
  pub source_ends : IsTrue writes_sources → IfSome known.source HasNoZero

-- a content type and a form, each where it is due
abbrev pub due_formats : List (Bool × DwLnct × DwForm) → List (ℕ × ℕ)
due_formats formats = flat_map (λ f. when f.0 (f.1.0, f.2.0)) formats
