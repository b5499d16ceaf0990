-- What is answered where many files, or directories of compilations, are asked for at once.
use Rattle.std.specs.Prelude.{◌≡◌, ◌⊎◌, ◌++◌, ◌∷◌, ℕ, List, length, None, Option, Some}
use Rattle.std.specs.Prelude.{Result, Ok, Err}
use Rattle.std.specs.List.{AllZip}
use Rattle.gimli_compilation.specs.Directories.{TellsDirectories}
use Rattle.gimli_compilation.specs.Sections.{Sections}
use Rattle.gimli_line.specs.header.File.{File}
use Rattle.gimli_line.specs.header.Header.{Header, file_of}
use Rattle.gimli_lookup.specs.Paths.{file_path}
use Rattle.gimli_lookup.specs.Strings.{Strings}
use Rattle.gimli_lookup.specs.declared.path_error.PathError.{PathError}
use Rattle.gimli_c.specs.declared.comp_dir.GimliCompDir.{GimliCompDir}
use Rattle.gimli_c.specs.declared.listed.GimliListedFile.{GimliListedFile}
use Rattle.gimli_c.specs.declared.status.TheConstants.{NO_COMP_DIR, NO_SUCH_FILE, OK, OUT_OF_MEMORY}
use Rattle.gimli_c.specs.declared.status.TheConstants.{UNKNOWN_PATH}
use Rattle.gimli_c.specs.FileSeen.{file_seen_by_c, HasFiles}
use Rattle.gimli_c.specs.Location.{Location, HasNoUnit}
use Rattle.gimli_c.specs.Path.{paths_handed}
use Rattle.gimli_c.specs.Written.{Copies, MemoryAside}

-- among texts one of so many bytes begins at an offset, and a zero byte follows it
pub record StandsAt (texts : List ℕ) (first size : ℕ) (text : List ℕ) : Type 0 where
  pub before : List ℕ
  pub after : List ℕ
  pub parts : texts ≡ before ++ (text ++ 0 ∷ after)
  pub first_is : first ≡ length before
  pub size_is : size ≡ length text

-- ---- files

-- a whole path stands there, or can't be told
abbrev pub SeesPathAmong : List ℕ → Result (List ℕ) PathError → ℕ → ℕ → ℕ → Type 0
SeesPathAmong texts (Ok path) first size status = (status ≡ OK) × StandsAt texts first size path
SeesPathAmong texts (Err e) first size status =
    (status ≡ UNKNOWN_PATH) × (first ≡ 0) × (size ≡ 0)

-- the file of the number that was asked for, and its whole path among the texts
pub record SeesFile (h : Header) (strings : Strings) (comp_dir texts : List ℕ)
    (asked seen : GimliListedFile) : Type 0 where
  pub file : File
  pub is_file : file_of h asked.number ≡ Some file
  pub number_is : seen.number ≡ asked.number
  pub file_is : seen.file ≡ file_seen_by_c h file
  pub path : SeesPathAmong texts (file_path (paths_handed strings h comp_dir) file) seen.path
      seen.path_size seen.status

-- that, or there is no such file
abbrev pub IsFileAnswer : Header → Strings → List ℕ → List ℕ → GimliListedFile → GimliListedFile
    → Type 0
IsFileAnswer h strings comp_dir texts asked seen =
    SeesFile h strings comp_dir texts asked seen
    ⊎ ((file_of h asked.number ≡ None) × (seen ≡ record asked { status = NO_SUCH_FILE }))

-- each of an array of the caller is answered, by the files of the unit at the location and the
-- texts of their paths
pub record GivesFiles (p : Location) (strings : Strings) (comp_dir : List ℕ)
    (old new : List GimliListedFile) (texts : List ℕ) : Type 0 where
  pub header : Header
  pub unit : HasFiles p header
  pub each : AllZip (IsFileAnswer header strings comp_dir texts) old new

-- what a call does that copies these texts to another array
abbrev pub CopiesFiles : Location → Strings → List ℕ → List GimliListedFile → List GimliListedFile
    → ℕ → List ℕ → List ℕ → ℕ → ℕ → Type 0
CopiesFiles p strings comp_dir old new =
    Copies (GivesFiles p strings comp_dir old new) (MemoryAside (HasNoUnit p))

-- ---- directories of compilations

-- a directory stands there, or there is none
abbrev pub SeesDirectoryAmong : List ℕ → Option (List ℕ) → ℕ → ℕ → ℕ → Type 0
SeesDirectoryAmong texts (Some directory) first size status =
    (status ≡ OK) × StandsAt texts first size directory
SeesDirectoryAmong texts None first size status =
    (status ≡ NO_COMP_DIR) × (first ≡ 0) × (size ≡ 0)

-- the directory of the line program that was asked for, where this tells them
pub record IsCompDirAnswer (tell : ℕ → Option (List ℕ)) (texts : List ℕ)
    (asked seen : GimliCompDir) : Type 0 where
  pub offset_is : seen.offset ≡ asked.offset
  pub directory : SeesDirectoryAmong texts (tell asked.offset) seen.directory seen.size seen.status

-- each of an array of the caller is answered
pub record GivesCompDirs (sections : Sections) (old new : List GimliCompDir) (texts : List ℕ)
    : Type 0 where
  pub tell : ℕ → Option (List ℕ)
  pub tells : TellsDirectories sections tell
  pub each : AllZip (IsCompDirAnswer tell texts) old new

-- what a call does that copies their texts to another array
abbrev pub CopiesCompDirs : Sections → List GimliCompDir → List GimliCompDir → ℕ → List ℕ → List ℕ
    → ℕ → ℕ → Type 0
CopiesCompDirs sections old new =
    Copies (GivesCompDirs sections old new) (λ status. status ≡ OUT_OF_MEMORY)
