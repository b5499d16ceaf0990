-- The directories and files of a source, as they are added to the program that is built of it.
use Rattle.std.specs.Prelude.{◌≡◌, ◌∷◌, ◌++◌, ◌&&◌, if◌then◌else◌}
use Rattle.gimli_write.specs.Prelude
use Prelude.{ℕ, nat_eq, nat_le, List, [], Option, Some, None, IfSome, option_map, ok_or, slice_get}
use Prelude.{Result, Ok, file_number}
use Prelude.{option_map_or, Value, File, made_text, made_table, Built, Sections, ConvertError}
use Prelude.{InvalidDirectoryIndex}
use Rattle.gimli_build.specs.Tables
use Tables.{FileKey, with_directory, index_of_directory, with_file, index_of_file}
use Rattle.gimli_write.specs.convert.Texts.{◌>>=◌, if_there, source_text, source_path}

-- the program that is built, and where it has the directories and files of its source
pub record SourceTables : Type 0 where
  pub program : Built
  -- for each directory of the source, by its index there, its id in the program
  pub directory_ids : List ℕ
  -- for each file, by its number in the source, its id; up to version 4 of the source none has
  -- number 0
  pub file_ids : List ℕ

-- the same, with the texts of the table of line strings
pub record TablesAndTexts : Type 0 where
  pub program : Built
  pub directory_ids : List ℕ
  pub file_ids : List ℕ
  pub line_strings : List (List ℕ)

-- tables with these line strings
abbrev pub tables_with : List (List ℕ) → SourceTables → TablesAndTexts
tables_with line_strings c = record {
  program = c.program;
  directory_ids = c.directory_ids;
  file_ids = c.file_ids;
  line_strings = line_strings;
}

-- the version of the program that is built
abbrev pub version_of : TablesAndTexts → ℕ
version_of tables = tables.program.encoding.version

-- ---- directories

-- the tables after a directory of this path
abbrev pub with_path : TablesAndTexts → List ℕ → TablesAndTexts
with_path tables path =
    let text = made_text (version_of tables) tables.line_strings path in
    record tables {
      program = record tables.program {
        directories = with_directory tables.program.directories text;
      };
      directory_ids =
          tables.directory_ids ++ index_of_directory tables.program.directories text ∷ [];
      line_strings = made_table (version_of tables) tables.line_strings path;
    }

-- the tables after a directory of the source
abbrev pub directory_added : Sections → TablesAndTexts → Value → Result TablesAndTexts ConvertError
directory_added sections tables v =
    source_path (version_of tables) sections v >>= λ path. Ok (with_path tables path)

-- ---- files

-- what a file of the source has, with texts of this program: its path, the id of its directory, and
-- its source
pub record FileParts : Type 0 where
  pub path : List ℕ
  pub directory : ℕ
  pub source : Option (List ℕ)

-- in a program of this version, with these ids of directories
abbrev pub file_parts : ℕ → Sections → List ℕ → File → Result FileParts ConvertError
file_parts version sections directory_ids f =
    source_path version sections f.path_name >>= λ path.
    ok_or (slice_get directory_ids f.directory_index) InvalidDirectoryIndex >>= λ directory.
    if_there (source_text sections) f.source >>= λ source.
    Ok (record { path = path; directory = directory; source = source })

-- the tables after a file of these parts, whose path is added to the line strings before its source
-- is
abbrev pub with_parts : TablesAndTexts → File → FileParts → TablesAndTexts
with_parts tables f parts =
    let made = made_text (version_of tables) in
    let after = made_table (version_of tables) in
    let paths = after tables.line_strings parts.path in
    let key : FileKey = (made tables.line_strings parts.path, parts.directory) in
    record tables {
      program = record tables.program {
        files = with_file tables.program.files key (Some (record {
          timestamp = f.timestamp;
          size = f.size;
          md5 = f.md5;
          source = option_map (made paths) parts.source;
        }));
      };
      file_ids = tables.file_ids ++ index_of_file tables.program.files key ∷ [];
      line_strings = option_map_or (after paths) parts.source paths;
    }

-- the tables after a file of the source
abbrev pub file_added : Sections → TablesAndTexts → File → Result TablesAndTexts ConvertError
file_added sections tables f =
    file_parts (version_of tables) sections tables.directory_ids f >>= λ parts.
    Ok (with_parts tables f parts)

-- ---- many

-- in order, to the first that is refused
abbrev pub all_added : {A : Type 0} → (TablesAndTexts → A → Result TablesAndTexts ConvertError)
    → List A → TablesAndTexts → Result TablesAndTexts ConvertError
all_added add [] tables = Ok tables
all_added add (x ∷ xs) tables = add tables x >>= λ next. all_added add xs next

-- ---- the numbers that the files of a source have once it is converted

-- the number in a program of a version that a file of a source has, by the ids of the source's
-- files; up to version 4 of the source none has number 0
abbrev pub written_number : ℕ → ℕ → List ℕ → ℕ → Option ℕ
written_number source_version version file_ids number =
    if nat_le source_version 4 && nat_eq number 0 then None
    else option_map (file_number version) (slice_get file_ids number)

-- each file of the source has its own number
abbrev pub AreNumbersKept : ℕ → ℕ → List ℕ → Type 0
AreNumbersKept source_version version file_ids =
    (n : ℕ) → IfSome (written_number source_version version file_ids n) (λ m. m ≡ n)
