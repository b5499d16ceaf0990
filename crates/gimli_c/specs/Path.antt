-- The whole path of a file of a unit (DWARF 5, section 6.2.4).
use Rattle.std.specs.Prelude.{◌≡◌, ◌⊎◌, ℕ, List, Some, Ok, Err}
use Rattle.gimli_line.specs.header.File.{File}
use Rattle.gimli_line.specs.header.Header.{Header, file_of}
use Rattle.gimli_lookup.specs.Paths.{Paths, file_path}
use Rattle.gimli_lookup.specs.Strings.{Strings}
use Rattle.gimli_lookup.specs.declared.path_error.PathError.{PathError}
use Rattle.gimli_c.specs.declared.status.TheConstants.{NO_SUCH_FILE, UNKNOWN_PATH}
use Rattle.gimli_c.specs.FileSeen.{GivesNoFile, HasFiles}
use Rattle.gimli_c.specs.Location.{Location, HasNoUnit}
use Rattle.gimli_c.specs.Written.{Copies, MemoryAside}

-- the sections of strings that are handed over
abbrev pub texts_handed : List ℕ → List ℕ → Strings
texts_handed line_strings strings = record { debug_line_str = line_strings; debug_str = strings }

-- what the paths of a header are made of, in a directory of the compilation
abbrev pub paths_handed : Strings → Header → List ℕ → Paths
paths_handed texts h comp_dir =
    record { sections = texts; header = h; comp_dir = Some comp_dir }

-- the file of a number of the unit at the location, whose header has the files that its program
-- defines too
pub record IsFileAt (p : Location) (number : ℕ) (h : Header) (file : File) : Type 0 where
  pub unit : HasFiles p h
  pub is_file : file_of h number ≡ Some file

-- its whole path
pub record GivesPath (p : Location) (texts : Strings) (number : ℕ) (comp_dir whole : List ℕ)
    : Type 0 where
  pub header : Header
  pub file : File
  pub is : IsFileAt p number header file
  pub is_path : file_path (paths_handed texts header comp_dir) file ≡ Ok whole

-- a string of the path can't be told
pub record CantTellPath (p : Location) (texts : Strings) (number : ℕ) (comp_dir : List ℕ)
    : Type 0 where
  pub header : Header
  pub file : File
  pub is : IsFileAt p number header file
  pub error : PathError
  pub is_error : file_path (paths_handed texts header comp_dir) file ≡ Err error

-- why the path isn't answered, memory aside: the unit has no such file, a string of the path can't
-- be told, or the unit can't be read
abbrev pub HasNoPath : Location → Strings → ℕ → List ℕ → ℕ → Type 0
HasNoPath p texts number comp_dir status =
    ((status ≡ NO_SUCH_FILE) × GivesNoFile p number)
    ⊎ (((status ≡ UNKNOWN_PATH) × CantTellPath p texts number comp_dir) ⊎ HasNoUnit p status)

-- what a call does that copies the path to an array of the caller
abbrev pub CopiesPath : Location → Strings → ℕ → List ℕ → ℕ → List ℕ → List ℕ → ℕ → ℕ → Type 0
CopiesPath p texts number comp_dir =
    Copies (GivesPath p texts number comp_dir) (MemoryAside (HasNoPath p texts number comp_dir))
