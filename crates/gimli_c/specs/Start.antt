-- What a program of what C hands over starts with.
use Rattle.std.specs.Prelude.{ℕ, false, nat_le, if◌then◌else◌, List, [], ◌∷◌, slice_get}
use Rattle.std.specs.Option.{option_map_or}
use Rattle.gimli_core.specs.declared.common.Encoding.{Encoding}
use Rattle.gimli_core.specs.declared.common.LineEncoding.{LineEncoding}
use Rattle.gimli_build.specs.Built.{Built, empty_built}
use Rattle.gimli_build.specs.LineText.{LineText, Inline}
use Rattle.gimli_build.specs.Tables.{File, no_details, with_directory, index_of_directory}
use Rattle.gimli_c.specs.declared.text.GimliName.{GimliName}
use Rattle.gimli_c.specs.declared.tables.GimliFileName.{GimliFileName}
use Rattle.gimli_c.specs.Handed.{text_handed}

-- the directory with an index, in version 5
abbrev pub directory_text : List ℕ → List GimliName → ℕ → LineText
directory_text texts directories i =
    Inline (option_map_or (text_handed texts) (slice_get directories i) [])

-- the directory of the first file, in version 5
abbrev pub own_directory : List ℕ → List GimliName → List GimliFileName → LineText
own_directory texts directories files =
    directory_text texts directories (option_map_or (λ f. f.directory) (slice_get files 0) 0)

-- the path of the first file
abbrev pub first_path : List ℕ → List GimliFileName → LineText
first_path texts files =
    Inline (option_map_or (λ f. text_handed texts f.path) (slice_get files 0) [])

-- up to version 4 the directory of the compilation, which has no name here; in version 5 the first
-- directory, and that of the first file
abbrev pub start_directories : ℕ → List ℕ → List GimliName → List GimliFileName → List LineText
start_directories version texts directories files =
    if nat_le version 4 then Inline [] ∷ []
    else with_directory (directory_text texts directories 0 ∷ [])
    (own_directory texts directories files)

-- up to version 4 no file; in version 5 the first, with nothing else known of it yet
abbrev pub start_files : ℕ → List ℕ → List GimliName → List GimliFileName → List File
start_files version texts directories files =
    if nat_le version 4 then []
    else (
      (
        first_path texts files,
        index_of_directory (directory_text texts directories 0 ∷ [])
            (own_directory texts directories files),
      ),
      no_details,
    )
    ∷ []

abbrev pub start_program : Encoding → LineEncoding → List ℕ → List GimliName → List GimliFileName
    → Built
start_program encoding lines texts directories files =
    empty_built false encoding lines (start_directories encoding.version texts directories files)
    (start_files encoding.version texts directories files)
