-- The fields of the tables of a line program, as lists.
use Rattle.gimli_build.specs
use specs.Prelude.{ℕ, List, map}
use specs.LineText.{LineText, line_text}
use specs.Tables.{FileKey, File}
use specs.declared.built.line_string.LineString.{LineString}
use specs.declared.built.files.FileInfo.{FileInfo}
use specs.TableFields.{details}

-- the key of a file
abbrev pub key : LineString × ℕ → FileKey
key k = (line_text k.0, k.1)

-- the directories
abbrev pub directories_of : List LineString → List LineText
directories_of keys = map line_text keys

-- the files
abbrev pub files_of : List ((LineString × ℕ) × FileInfo) → List File
files_of entries = map (λ e. (key e.0, details e.1)) entries
