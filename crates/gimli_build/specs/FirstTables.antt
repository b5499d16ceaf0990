-- The tables of a new program.
use Rattle.std.specs.Prelude.{◌∷◌, if◌then◌else◌}
use Rattle.gimli_build.specs
use specs.Prelude.{ℕ, List, [], nat_le, Option, option_map, unwrap_or, option_map_or}
use specs.LineText.{LineText, line_text}
use specs.Tables.{Details, File, Tables, no_details, with_directory, index_of_directory}
use specs.TableFields.{details}
use specs.declared.built.line_string.LineString.{LineString}
use specs.declared.built.files.FileInfo.{FileInfo}

-- the working directory, and from version 5 on the directory of the source file, if it is given
abbrev pub first_directories : ℕ → LineText → Option LineText → List LineText
first_directories version working_dir source_dir =
    if nat_le version 4 then working_dir ∷ []
    else option_map_or (with_directory (working_dir ∷ [])) source_dir (working_dir ∷ [])

-- the source file from version 5 on; without a directory of its own it is in the working directory
abbrev pub first_files : ℕ → LineText → Option LineText → LineText → Option Details → List File
first_files version working_dir source_dir source_file known =
    if nat_le version 4 then []
    else (
      (source_file, option_map_or (index_of_directory (working_dir ∷ [])) source_dir 0),
      unwrap_or known no_details,
    )
    ∷ []

-- both, of what `new` is handed: the working directory, and the directory, the path and the details
-- of the source file
abbrev pub first_tables : ℕ → LineString → Option LineString → LineString → Option FileInfo → Tables
first_tables version working_dir source_dir source_file info = record {
  directories = first_directories version (line_text working_dir) (option_map line_text source_dir);
  files =
      first_files version (line_text working_dir) (option_map line_text source_dir)
      (line_text source_file) (option_map details info);
}
