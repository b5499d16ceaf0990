-- The tables of a unit up to version 4 as they are written (DWARF 4, section 6.2.4, parts 11 and
-- 12).
use Rattle.std.specs.Prelude.{◌++◌, ◌∷◌}
use Rattle.gimli_build.specs
use specs.Prelude.{ℕ, List, [], drop, Result, Ok, Err, uleb, Error, LineStringFormMismatch}
use specs.LineText.{LineText, Inline}
use specs.Tables.{File}
use specs.Joined.{result_append, result_concat}

-- a name in the unit itself; up to version 4 no other table can hold it
abbrev pub name_bytes : LineText → Result (List ℕ) Error
name_bytes (Inline text) = Ok (text ++ 0 ∷ [])
name_bytes t = Err LineStringFormMismatch

-- the directories but for the working directory, and a zero byte that closes them
abbrev pub directories_bytes : List LineText → Result (List ℕ) Error
directories_bytes directories =
    result_append (result_concat name_bytes (drop 1 directories)) (Ok (0 ∷ []))

-- a file: its path, its directory, its timestamp and its size
abbrev pub file_bytes : File → Result (List ℕ) Error
file_bytes f =
    result_append (name_bytes f.0.0) (Ok (uleb f.0.1 ++ uleb f.1.timestamp ++ uleb f.1.size))

-- the files, and a zero byte that closes them
abbrev pub files_bytes : List File → Result (List ℕ) Error
files_bytes files = result_append (result_concat file_bytes files) (Ok (0 ∷ []))
