-- What is made of the header of a source, before its program is read.
use Rattle.std.specs.Prelude.{◌||◌, ◌∷◌, ◌+ℤ◌, if◌then◌else◌}
use Rattle.gimli_write.specs
use specs.Prelude
use Prelude.{ℕ, List, [], Bool, false, Option, Some, None, option_map, ok_or, unwrap_or}
use Prelude.{Result, Ok, Err, nat_eq, nat_le, nat_lt, pos, int_lt, int_le}
use Prelude.{option_map_or, IfSome, Encoding, LineEncoding, Value, File, Header, directory_of}
use Prelude.{file_of}
use Prelude.{has_content, LineText, made_text, made_table, Built, empty_built, Sections}
use Prelude.{ConvertError, MissingCompilationDirectory, MissingCompilationName}
use Prelude.{InvalidDirectoryIndex, InvalidLineBase}
use Rattle.gimli_line.specs.LineNumbers.{
  DW_LNCT_timestamp,
  DW_LNCT_size,
  DW_LNCT_MD5,
  DW_LNCT_LLVM_source,
}
use Rattle.std.specs.Prelude.{IsTrue}
use Rattle.gimli_core.specs.Numbers.{is_address_size}
use Rattle.gimli_build.specs.Advance.{CanEncode}
use Rattle.gimli_build.specs.FirstTables.{first_directories, first_files}
use specs.convert.Texts.{◌>>=◌, without_zero, source_text, source_path}
use specs.convert.SourceTables.{
  TablesAndTexts,
  directory_added,
  file_added,
  all_added,
}

-- what a program of version 5 asks, and one up to version 4 can do without
abbrev pub needed_from_5 : {A : Type 0} → ℕ → A → ConvertError → Result A ConvertError
needed_from_5 version empty missing = if nat_le version 4 then Ok empty else Err missing

-- the path of directory 0 or of file 0, for a program of this version: up to version 4 of the
-- source it stands in none of its tables, so it may be empty there
abbrev pub first_path : ℕ → Sections → Header → Value → Result (List ℕ) ConvertError
first_path version sections h v =
    if nat_le h.parameters.encoding.version 4 then source_text sections v
    else source_path version sections v

-- ---- the working directory, which is directory 0

-- its path, for a program of this version
abbrev pub working_directory : ℕ → Sections → Header → Result (List ℕ) ConvertError
working_directory version sections h =
    option_map_or (first_path version sections h) (directory_of h 0)
    (needed_from_5 version [] MissingCompilationDirectory)

-- ---- the source file, which is file 0, or has the name that is handed in

-- the source file: its path, and its directory unless that is the working directory
pub record SourceFile : Type 0 where
  pub directory : Option (List ℕ)
  pub path : List ℕ

-- the path of the directory with this index, unless that is the working directory
abbrev pub file_directory : ℕ → Sections → Header → ℕ → Result (Option (List ℕ)) ConvertError
file_directory version sections h index =
    if nat_eq index 0 then Ok None
    else (ok_or (directory_of h index) InvalidDirectoryIndex >>= λ v.
    source_path version sections v >>= λ path. Ok (Some path))

-- the source file of a header, which is this file
abbrev pub own_source_file : ℕ → Sections → Header → File → Result SourceFile ConvertError
own_source_file version sections h f =
    file_directory version sections h f.directory_index >>= λ directory.
    first_path version sections h f.path_name >>= λ path.
    Ok (record { directory = directory; path = path })

-- the source file of a name that is handed in
abbrev pub named_source_file : List ℕ → Result SourceFile ConvertError
named_source_file name = without_zero name >>= λ path. Ok (record { directory = None; path = path })

-- a handed name is for sources up to version 4
abbrev pub name_for : ℕ → Option (List ℕ) → Option (List ℕ)
name_for source_version name = if nat_le source_version 4 then name else None

-- the one that is handed in, else that of the header
abbrev pub source_file : ℕ → Sections → Header → Option (List ℕ) → Result SourceFile ConvertError
source_file version sections h name =
    option_map_or named_source_file (name_for h.parameters.encoding.version name)
    (option_map_or (own_source_file version sections h) (file_of h 0)
    (needed_from_5 version (record { directory = None; path = [] }) MissingCompilationName))

-- ---- the encoding of lines

-- the source's can't be written: no special opcode is sure to advance no line, or no byte holds the
-- one that does
abbrev pub is_out_of_range : LineEncoding → Bool
is_out_of_range e = int_le (e.line_base +ℤ pos e.line_range) (pos 0) || nat_lt 127 e.line_range

-- the one that is handed in, else the source's
abbrev pub chosen_line_encoding : LineEncoding → Option LineEncoding
    → Result LineEncoding ConvertError
chosen_line_encoding own (Some handed) = Ok handed
chosen_line_encoding own None = if is_out_of_range own then Err InvalidLineBase else Ok own

-- it, which has no positive line base
abbrev pub line_encoding_of : LineEncoding → Option LineEncoding → Result LineEncoding ConvertError
line_encoding_of own handed =
    if int_lt (pos 0) own.line_base then Err InvalidLineBase else chosen_line_encoding own handed

-- ---- the program, with its first directory and file

-- texts that are made, and the line strings after them
pub record FirstTexts : Type 0 where
  pub working_directory : LineText
  pub source_directory : Option LineText
  pub source_file : LineText
  pub line_strings : List (List ℕ)

-- the working directory is made first, then the directory of the source file, then the source file
abbrev pub first_texts : ℕ → List (List ℕ) → List ℕ → SourceFile → FirstTexts
first_texts version line_strings directory file =
    let made = made_text version in
    let after = made_table version in
    let second = after line_strings directory in
    let third = option_map_or (after second) file.directory second in
    record {
      working_directory = made line_strings directory;
      source_directory = option_map (made second) file.directory;
      source_file = made third file.path;
      line_strings = after third file.path;
    }

-- whether the files of a header have a value, which those up to version 4 all have of times and
-- sizes
abbrev pub has_before_5 : ℕ → Header → Bool
has_before_5 content h =
    nat_le h.parameters.encoding.version 4 || has_content content h.file_formats

-- a program that writes of its files what the files of a header have
abbrev pub with_flags : Header → Built → Built
with_flags h p = record p {
  file_has_timestamp = has_before_5 DW_LNCT_timestamp h;
  file_has_size = has_before_5 DW_LNCT_size h;
  file_has_md5 = has_content DW_LNCT_MD5 h.file_formats;
  file_has_source = has_content DW_LNCT_LLVM_source h.file_formats;
}

-- a program with these texts, which has no row yet
abbrev pub start_of_program : Encoding → LineEncoding → Header → FirstTexts → Built
start_of_program encoding line_encoding h texts =
    with_flags h (empty_built false encoding line_encoding
    (first_directories encoding.version texts.working_directory texts.source_directory)
    (first_files encoding.version texts.working_directory texts.source_directory texts.source_file
    None))

-- up to version 4 the tables of a source begin at 1
abbrev pub first_ids : ℕ → List ℕ
first_ids source_version = if nat_le source_version 4 then 0 ∷ [] else []

-- the tables of that program, where nothing else of the source is added
abbrev pub start_of_tables : Encoding → LineEncoding → Header → FirstTexts → TablesAndTexts
start_of_tables encoding line_encoding h texts = record {
  program = start_of_program encoding line_encoding h texts;
  directory_ids = first_ids h.parameters.encoding.version;
  file_ids = first_ids h.parameters.encoding.version;
  line_strings = texts.line_strings;
}

-- ---- all of it

-- a program may have these encodings, where they are handed in
pub record CanBeHanded (encoding : Option Encoding) (line_encoding : Option LineEncoding)
    : Type 0 where
  pub address_size : IfSome encoding (λ e. IsTrue (is_address_size e.address_size))
  pub lines : IfSome line_encoding CanEncode

-- what is handed in: the encodings of the program that is built, and the name of the source file
pub record Handed : Type 0 where
  pub encoding : Option Encoding
  pub line_encoding : Option LineEncoding
  pub name : Option (List ℕ)

-- these three
abbrev pub handed_of : Option Encoding → Option LineEncoding → Option (List ℕ) → Handed
handed_of encoding line_encoding name = record {
  encoding = encoding;
  line_encoding = line_encoding;
  name = name;
}

-- the one that is handed in, else the source's
abbrev pub encoding_of : Header → Handed → Encoding
encoding_of h given = unwrap_or given.encoding h.parameters.encoding

-- the tables with these first texts, where lines can be encoded
abbrev pub with_first_texts : Encoding → Option LineEncoding → Header → FirstTexts
    → Result TablesAndTexts ConvertError
with_first_texts encoding line_encoding h texts =
    line_encoding_of h.parameters.line_encoding line_encoding >>= λ e.
    Ok (start_of_tables encoding e h texts)

module _ (sections : Sections) (h : Header) where
  -- the tables before the directories and files of a header are added
  abbrev pub tables_at_start : Encoding → Option LineEncoding → Option (List ℕ) → List (List ℕ)
      → Result TablesAndTexts ConvertError
  tables_at_start encoding line_encoding name line_strings =
      working_directory encoding.version sections h >>= λ directory.
      source_file encoding.version sections h name >>= λ file.
      with_first_texts encoding line_encoding h
      (first_texts encoding.version line_strings directory file)

  -- they are added
  abbrev pub lists_added : TablesAndTexts → Result TablesAndTexts ConvertError
  lists_added tables =
      all_added (directory_added sections) h.directories tables >>= λ between.
      all_added (file_added sections) h.files between

  -- the tables after all directories and files of a header, from the line strings before it
  abbrev pub tables_of_header : Handed → List (List ℕ) → Result TablesAndTexts ConvertError
  tables_of_header given line_strings =
      tables_at_start (encoding_of h given) given.line_encoding given.name line_strings
      >>= λ tables. lists_added tables
