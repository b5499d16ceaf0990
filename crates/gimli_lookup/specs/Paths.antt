-- The path of a file. A relative path goes on from the file's directory, and a relative directory
-- from that of the compilation (DWARF 5, section 6.2.4; DWARF 4, section 6.2.4).
use Rattle.std.specs.Prelude.{◌≡◌, ℕ, ◌-◌, Bool, false, ◌&&◌, ◌||◌, nat_eq, nat_le, if◌then◌else◌}
use Rattle.std.specs.Prelude.{List, [], ◌∷◌, ◌++◌, length, slice_get, Option, unwrap_or, Result, Ok}
use Rattle.std.specs.Prelude.{Err, IsTrue}
use Rattle.std.specs.Char.{is_ascii_alphabetic}
use Rattle.std.specs.Option.{option_map_or}
use Rattle.gimli_core.specs.Reading.{result_map}
pub use Rattle.gimli_core.specs.Results.{◌>>=◌}
use Rattle.gimli_line.specs.declared.run.row.LineRow.{LineRow}
use Rattle.gimli_line.specs.header.File.{File}
use Rattle.gimli_line.specs.header.Header.{Header, directory_of, file_of}
use Rattle.gimli_lookup.specs.Strings.{Strings, has_no_bytes, string_of}
use Rattle.gimli_lookup.specs.declared.path_error.PathError.{PathError}
use Rattle.gimli_lookup.specs.declared.path_error.PathError.TheVariants.{
  InvalidDirectoryIndex,
  InvalidFileIndex,
}

-- ---- absolute paths

-- `/` or a backslash
abbrev pub is_separator : ℕ → Bool
is_separator byte = nat_eq byte 0x2f || nat_eq byte 0x5c

-- whether a path begins with a separator
abbrev pub begins_with_separator : List ℕ → Bool
begins_with_separator [] = false
begins_with_separator (byte ∷ path) = is_separator byte

-- an ASCII letter, a colon and a separator
abbrev pub begins_with_drive : List ℕ → Bool
begins_with_drive (letter ∷ colon ∷ path) =
    is_ascii_alphabetic letter && nat_eq colon 0x3a && begins_with_separator path
begins_with_drive path = false

-- whether a path goes on from no directory: it begins with a separator or a drive
abbrev pub is_absolute : List ℕ → Bool
is_absolute path = begins_with_separator path || begins_with_drive path

-- ---- relative paths

-- a `/`, but nothing where the directory is empty or ends with a separator
abbrev pub separator_after : List ℕ → List ℕ
separator_after directory =
    option_map_or (λ last. if is_separator last then [] else 0x2f ∷ [])
    (slice_get directory (length directory - 1)) []

-- a path in a directory
abbrev pub path_in : List ℕ → List ℕ → List ℕ
path_in directory path = directory ++ separator_after directory ++ path

-- an absolute path as it is, and a relative one in a directory, which is looked for only then
abbrev pub path_from : Result (List ℕ) PathError → List ℕ → Result (List ℕ) PathError
path_from directory path =
    if is_absolute path then Ok path else result_map (λ base. path_in base path) directory

-- ---- paths of a header

-- what whole paths are made of: the strings of the sections, a header, and the directory of the
-- compilation, where the caller has it
pub record Paths : Type 0 where
  pub sections : Strings
  pub header : Header
  pub comp_dir : Option (List ℕ)

-- the directory of an index that the header doesn't have. Up to version 4 that of index 0 isn't
-- written, so it has no bytes
abbrev pub unwritten_directory : Header → ℕ → Result (List ℕ) PathError
unwritten_directory h i =
    if nat_le h.parameters.encoding.version 4 && nat_eq i 0 then Ok []
    else Err (InvalidDirectoryIndex i)

-- the directory of an index, as it is written
abbrev pub directory_string : Paths → ℕ → Result (List ℕ) PathError
directory_string p i =
    option_map_or (string_of p.sections) (directory_of p.header i) (unwritten_directory p.header i)

-- directory 0, or if that has no bytes, the caller's directory
abbrev pub written_or : Option (List ℕ) → List ℕ → List ℕ
written_or comp_dir zero = if nat_eq (length zero) 0 then unwrap_or comp_dir [] else zero

-- the directory of the compilation: directory 0 (section 6.2.4), or if that has no bytes, the
-- caller's (section 3.1.1). It is empty where nobody knows it
abbrev pub compilation_directory : Paths → Result (List ℕ) PathError
compilation_directory p = result_map (written_or p.comp_dir) (directory_string p 0)

-- the whole path of a directory. Directory 0 goes on from nothing
abbrev pub directory_path : Paths → ℕ → Result (List ℕ) PathError
directory_path p i =
    if nat_eq i 0 then compilation_directory p
    else directory_string p i >>= path_from (compilation_directory p)

-- the whole path of a file
abbrev pub file_path : Paths → File → Result (List ℕ) PathError
file_path p f = string_of p.sections f.path_name >>= path_from (directory_path p f.directory_index)

-- the whole path of a row's file
abbrev pub row_path : Paths → LineRow → Result (List ℕ) PathError
row_path p r = option_map_or (file_path p) (file_of p.header r.file) (Err (InvalidFileIndex r.file))

-- ---- what can be said of a whole path

-- whether the caller's directory counts: directory 0 has no bytes
abbrev pub needs_directory : Paths → Bool
needs_directory p = has_no_bytes (directory_string p 0)

-- the same with another directory of the caller
abbrev pub with_directory : Option (List ℕ) → Paths → Paths
with_directory comp_dir p =
    record { sections = p.sections; header = p.header; comp_dir = comp_dir }

-- the directory of the compilation is absolute, as it is where directory 0 is absolute
abbrev pub HasAbsoluteRoot : Paths → Type 0
HasAbsoluteRoot p =
    (root : List ℕ) × (compilation_directory p ≡ Ok root) × IsTrue (is_absolute root)

-- the last bytes of a whole path are the path that the table of files has
pub record EndsWithOwnPath (sections : Strings) (f : File) (path : List ℕ) : Type 0 where
  pub own : List ℕ
  pub front : List ℕ
  pub is_own : string_of sections f.path_name ≡ Ok own
  pub parts : path ≡ front ++ own
